-- `Records::totals` meets its contract. Assumes nothing.
use mathlib.Core.Path.{◌≡◌, sym, ap, ◌∙◌}
use mathlib.Core.Logic.{⊎_elim}
use Rattle.layout_rules.specs.declared.Totals.{Totals}
use Rattle.layout_rules.specs.Places.{first_operations, totals_at}
use Rattle.board_rules.specs.Machine.{depth}
use Rattle.netlist_tests.proofs.RecordLaws.{totals-differ, totals-accepted}
use Rattle.netlist_read.proofs.HeldLaws.{depth-held}
use Rattle.netlist_read.proofs.records.Records.totals.Goals as goal

pub returns-then-totals-self-clause-refusal : goal.returns-then-totals-self-clause-refusal
returns-then-totals-self-clause-refusal c =
    let s = c.args.self.now in
    let b = s.bytes.now in
    let os = first_operations b s.head.operations in
    let read : c.totals_at-totals.result ≡ totals_at b c.args.place = c.totals_at-totals.ensures in
    let deepest : c.largest_depth-depth.result ≡ depth s.head.n os = c.largest_depth-depth.ensures ∙ depth-held b s.head.n s.head.operations c.args.depths.now c.requires in
    totals-differ b c.args.place s.head os (sym c.in_ok-record_refusal.ensures.refusal)
    (λ t. ⊎_elim (λ z. z (ap (λ (x : Totals). x.operations) read ∙ t.count)) (λ z. z.1 (ap (λ (x : Totals). x.depth) read ∙ t.deepest ∙ sym deepest)) c.then-totals-self.either)

pub returns-clause-refusal : goal.returns-clause-refusal
returns-clause-refusal c =
    let s = c.args.self.now in
    let b = s.bytes.now in
    let os = first_operations b s.head.operations in
    let read : c.totals_at-totals.result ≡ totals_at b c.args.place = c.totals_at-totals.ensures in
    let deepest : c.largest_depth-depth.result ≡ depth s.head.n os = c.largest_depth-depth.ensures ∙ depth-held b s.head.n s.head.operations c.args.depths.now c.requires in
    totals-accepted b c.args.place s.head os (sym c.in_ok-record_refusal.ensures.refusal) (record {
      count = sym (ap (λ (x : Totals). x.operations) read) ∙ c.if-totals-self.false;
      deepest = sym (ap (λ (x : Totals). x.depth) read) ∙ c.if-totals-depth.false ∙ deepest;
    })
