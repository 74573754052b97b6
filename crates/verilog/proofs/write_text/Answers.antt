-- `verilog::write_text` meets its contract. Assumes nothing.
use Rattle.std.proofs.Common.{rules, ap, ◌∙◌}
use Rattle.refusals.specs.Numbers.{number}
use Rattle.refusals.specs.declared.Refused.{Refused}
use Rattle.layout_rules.specs.Places.{netlist_in}
use Rattle.verilog_rules.specs.Answer.{verilog_refused}
use Rattle.verilog.proofs.AnswerLaws.{declines, too_short, copied}
use Rattle.verilog.proofs.write_text.Goals as goal

pub returns-in_err-netlist-clause-value : goal.returns-in_err-netlist-clause-value
returns-in_err-netlist-clause-value c = search (rules, (declines c.args.bytes.now c.args.buffer.now _ _ c.in_err-netlist.ensures.err).0)

pub returns-in_err-netlist-clause-buffer_after : goal.returns-in_err-netlist-clause-buffer_after
returns-in_err-netlist-clause-buffer_after c = (declines c.args.bytes.now c.args.buffer.now _ _ c.in_err-netlist.ensures.err).1

pub returns-then-buffer-written-clause-value : goal.returns-then-buffer-written-clause-value
returns-then-buffer-written-clause-value c =
    let net = c.in_ok-netlist.netlist in
    let both = too_short net.bytes.now c.args.buffer.now (netlist_in net.bytes.now) net.read.netlist-read _ _ _ c.write_module-written.ensures c.if-buffer-written.true in
    rw (← c.in_ok-netlist.ensures.ok) (ap (λ (r : Refused). verilog_refused (number r.refusal) r.place) c.at.ensures ∙ both.0)

pub returns-then-buffer-written-clause-buffer_after : goal.returns-then-buffer-written-clause-buffer_after
returns-then-buffer-written-clause-buffer_after c =
    let net = c.in_ok-netlist.netlist in
    let both = too_short net.bytes.now c.args.buffer.now (netlist_in net.bytes.now) net.read.netlist-read _ _ _ c.write_module-written.ensures c.if-buffer-written.true in
    rw (← c.in_ok-netlist.ensures.ok) both.1

pub returns-clause-value : goal.returns-clause-value
returns-clause-value c =
    let net = c.in_ok-netlist.netlist in
    let both = copied net.bytes.now c.args.buffer.now (netlist_in net.bytes.now) net.read.netlist-read _ _ _ c.write_module-written.ensures _ _ c.if-buffer-written.false c.copy.ensures.count c.copy.ensures.copied in
    rw (← c.in_ok-netlist.ensures.ok) both.0

pub returns-clause-buffer_after : goal.returns-clause-buffer_after
returns-clause-buffer_after c =
    let net = c.in_ok-netlist.netlist in
    let both = copied net.bytes.now c.args.buffer.now (netlist_in net.bytes.now) net.read.netlist-read _ _ _ c.write_module-written.ensures _ _ c.if-buffer-written.false c.copy.ensures.count c.copy.ensures.copied in
    rw (← c.in_ok-netlist.ensures.ok) both.1
