-- `netlist_run::run_operations` meets its contract. Assumes nothing.
use native.Mathlib.Omega.{arith}
use native.Mathlib.Numerals.{add-one}
use lib.ListN.{take}
use Rattle.netlist_run.proofs.BoardLaws.{board_started, symbols-most, operation-held, operands-small, board-appended, board-end}
use Rattle.netlist_run.proofs.run_operations.Goals as goal

pub loop-k-init : goal.loop-k-init
loop-k-init c = let s = c.args.netlist.now in board_started s.bytes.now s.head.n c.args.values.now c.requires.0 (rw (← s.head_read) c.requires.1)

pub overflow_add-n : goal.overflow_add-n
overflow_add-n c = let s = c.args.netlist.now in omega (arith, symbols-most s.bytes.now s.read s.head s.head_read)

pub append_value-requires : goal.append_value-requires
append_value-requires c =
    let s = c.args.netlist.now in
    let L = operation-held s.bytes.now s.read s.head s.head_read c.loop-k.k (omega arith) c.operation.ensures in
    let most = symbols-most s.bytes.now s.read s.head s.head_read in
    record {
      symbol_lt_max_symbols = (omega (arith, most), (omega (arith, most, L.first_earlier), omega (arith, most, L.second_earlier)));
      small = operands-small s.bytes.now s.read s.head s.head_read c.loop-k.k (omega arith) c.operation.ensures (take s.head.n c.args.values.now) c.loop-k.values c.loop-k.invariant;
    }

pub loop-k-preserved : goal.loop-k-preserved
loop-k-preserved c =
    let s = c.args.netlist.now in
    rw (add-one c.loop-k.k) (board-appended s.bytes.now s.read s.head s.head_read c.loop-k.k (omega arith) c.operation.ensures (take s.head.n c.args.values.now) c.loop-k.values c.loop-k.invariant
    (rw c.n-n.ensures at c.append_value.ensures))

pub returns : goal.returns
returns c =
    let s = c.args.netlist.now in
    board-end s.bytes.now s.read s.head s.head_read c.loop-k.k (omega arith) (take s.head.n c.args.values.now) c.loop-k.values c.loop-k.invariant
