-- The samples that bytes hold. Run refuses every number of samples but n alike, and n is at most the most columns: so it makes no
-- difference which samples it is lent where there are more.
-- Assumes nothing.
use Prim.Native.Nat.{ℕ, suc, ◌*◌, ◌/◌, ◌%◌, ◌≤◌, ◌<◌}
use mathlib.Core.Path.{◌≡◌, refl, sym, ap, ap₂, ◌∙◌}
use mathlib.Core.Bool.{Bool, true, false}
use mathlib.Core.List.{List, [], ◌∷◌, ◌++◌}
use native.Mathlib.Omega.{arith}
use lib.Dec.{eqb}
use lib.IntN.{ℤ}
use lib.ListN.{length, set, take, drop, length-append}
use lib.Seq.{length-take-le, take-suc-set, take_at}
use borrow.Author.Tests.{eq-eqb, ne_eqb, eqb-true, eqb-false}
use Rattle.limits.specs.Limits.{max_columns}
use Rattle.layout_rules.specs.Records.{Netlist}
use Rattle.layout_rules.specs.Places.{first_records}
use Rattle.layout_rules.proofs.LittleEndian.{AreBytes}
use Rattle.layout_rules.proofs.FirstRecords.{length-first}
use Rattle.board_rules.specs.Netlist.{HeadLimits}
use Rattle.netlist_rules.specs.Read.{Reading, refused, accepted, read_netlist}
use Rattle.netlist_rules.specs.Run.{run_answer, run_outputs}
use Rattle.netlist_rules.specs.Exact.{read_limits}
use Rattle.netlist_rules.proofs.ReadAccepts.{reads_netlist}
use Rattle.netlist_run.proofs.BoardLaws.{samples-differ}
use Rattle.run_text.specs.Samples.{sample_at, first_samples, sample_count, samples_of}

module _ (bytes : List ℕ) where
  pub count_where_whole : length bytes % 4 ≡ 0 → length bytes / 4 ≡ sample_count bytes
  unfolding sample_count
  count_where_whole h = rw (eq-eqb (length bytes % 4) 0 h)

  pub count_where_not-whole : (length bytes % 4 ≡ 0 → ⊥) → suc max_columns ≡ sample_count bytes
  unfolding sample_count
  count_where_not-whole h = rw (ne_eqb (length bytes % 4) 0 h)

  -- as many as a netlist takes are all there
  pub samples-there : (count : ℕ) → count ≡ sample_count bytes → count ≤ max_columns → 4 * count ≤ length bytes
  samples-there count is few = go (eqb (length bytes % 4) 0) refl
    where
      go : (whole : Bool) → eqb (length bytes % 4) 0 ≡ whole → 4 * count ≤ length bytes
      go true e = omega (arith, count_where_whole (eqb-true (length bytes % 4) 0 e))
      go false e = absurd (omega (arith, count_where_not-whole (eqb-false (length bytes % 4) 0 e)))

  pub length-samples : length (samples_of bytes) ≡ sample_count bytes
  length-samples = length-first (sample_at bytes) (sample_count bytes)

  -- one sample more
  pub next_sample : (samples : List ℤ) (i : ℕ) (z : ℤ) → i < length samples → z ≡ sample_at bytes i → take i samples ≡ first_samples bytes i
      → take (suc i) (set samples i z) ≡ first_samples bytes (suc i)
  unfolding first_records
  next_sample samples i z h e t = take-suc-set samples i z h ∙ ap₂ (λ (l : List ℤ) (y : ℤ). l ++ (y ∷ [])) t e

  -- a table whose first so many places were lent and filled
  module _ (table part : List ℤ) (count : ℕ) (room : count ≤ length table) (is : part ≡ first_samples bytes (length (take count table))) where
    front : part ≡ first_samples bytes count
    front = is ∙ ap (first_samples bytes) (length-take-le count table room)

    count_front : length part ≡ count
    count_front = ap length front ∙ length-first (sample_at bytes) count

    pub samples-lent : take count (part ++ drop count table) ≡ first_samples bytes count
    samples-lent = take_at part (drop count table) count count_front ∙ front

    pub room-lent : count ≤ length (part ++ drop count table)
    room-lent = omega (arith, length-append part (drop count table), count_front)

    pub count-lent : count ≡ length (take count (part ++ drop count table))
    count-lent = sym (ap length samples-lent ∙ length-first (sample_at bytes) count)

-- run answers and leaves the same for both
abbrev pub Alike : List ℕ → List ℤ → List ℤ → List ℤ → Type 0
Alike b outputs xs ys =
    (run_answer b xs (length outputs) ≡ run_answer b ys (length outputs)) × (run_outputs b xs outputs ≡ run_outputs b ys outputs)

module _ (b : List ℕ) (outputs xs ys : List ℤ) where
  alike_refused : (r place : ℕ) → read_netlist b ≡ refused r place → Alike b outputs xs ys
  unfolding run_answer run_outputs
  alike_refused r place e = (rw (e, run_answer), rw (e, run_outputs))

  -- both more than any netlist takes
  pub many_alike : AreBytes b → max_columns < length xs → max_columns < length ys → Alike b outputs xs ys
  many_alike all x y = go (read_netlist b) refl
    where
      go : (z : Reading Netlist) → read_netlist b ≡ z → Alike b outputs xs ys
      go (refused r place) e = alike_refused r place e
      go (accepted net) e =
          let limits : HeadLimits (read_limits net.head.width) net.head = ((reads_netlist b all net).0 e).netlist.head in
          let first = samples-differ b xs outputs net e (λ n. omega arith) in
          let second = samples-differ b ys outputs net e (λ n. omega arith) in
          (sym first.0 ∙ second.0, sym first.1 ∙ second.1)
