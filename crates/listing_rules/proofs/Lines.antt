-- The lines as their writers put them together.
-- Assumes nothing.
use mathlib.Core.Path.{◌≡◌, ap, ◌∙◌}
use mathlib.Core.List.{List, ◌++◌, append_assoc}
use Prim.Native.Nat.{ℕ}
use borrow.Author.Tests.{eq-eqb, ne_eqb}
use Rattle.layout_rules.specs.declared.Operation.{Operation}
use Rattle.layout_rules.specs.declared.Output.{Output}
use Rattle.text.specs.Decimal.{number}
use Rattle.text.specs.Text.{ascii}
use Rattle.listing_rules.specs.Listing.{shifted_operand, counts_line, operation_sign, operation_line, entry_text, value_text}
use Rattle.listing_rules.specs.declared.Counts.{Counts}

-- three or four parts behind what stands before
three : (x a b c : List ℕ) → x ++ (a ++ b ++ c) ≡ x ++ a ++ b ++ c
three x a b c = simp append_assoc

four : (x a b c d : List ℕ) → x ++ (a ++ b ++ c ++ d) ≡ x ++ a ++ b ++ c ++ d
four x a b c d = simp append_assoc

pub counts_parts : (c : Counts)
    → (ascii "inputs " ++ number c.inputs ++ ascii " outputs " ++ number c.outputs)
    ++ (ascii " operations " ++ number c.operations ++ ascii " plain " ++ number c.plain)
    ++ (ascii " divisors " ++ number c.divisors ++ ascii " replacements " ++ number c.replacements)
    ++ (ascii " depth " ++ number c.depth ++ ascii "\n")
    ≡ counts_line c
unfolding counts_line
counts_parts c =
    let last : List ℕ → List ℕ = λ x. x ++ (ascii " depth " ++ number c.depth ++ ascii "\n") in
    let third : List ℕ → List ℕ = λ x. last (x ++ (ascii " divisors " ++ number c.divisors ++ ascii " replacements " ++ number c.replacements)) in
    let first : List ℕ = ascii "inputs " ++ number c.inputs ++ ascii " outputs " ++ number c.outputs in
    let second : List ℕ = first ++ ascii " operations " ++ number c.operations ++ ascii " plain " ++ number c.plain in
    ap third (four first (ascii " operations ") (number c.operations) (ascii " plain ") (number c.plain))
    ∙ ap last (four second (ascii " divisors ") (number c.divisors) (ascii " replacements ") (number c.replacements))
    ∙ three (second ++ ascii " divisors " ++ number c.divisors ++ ascii " replacements " ++ number c.replacements) (ascii " depth ") (number c.depth) (ascii "\n")

pub operation_parts : (symbol : ℕ) (o : Operation)
    → (ascii "" ++ number symbol)
    ++ (ascii " = " ++ number o.a ++ ascii "<<" ++ number o.sa)
    ++ (operation_sign o.sign ++ shifted_operand o.b o.sb)
    ++ (ascii " width " ++ number o.width ++ ascii "\n")
    ≡ operation_line symbol o
unfolding operation_line
operation_parts symbol o = simp append_assoc

pub value-zero : (o : Output) → o.sign ≡ 2 → ascii " = zero width 1\n" ≡ value_text o
unfolding value_text
value-zero o e = rw (eq-eqb o.sign 2 e)

pub value_entry : (o : Output) → (o.sign ≡ 2 → ⊥) → entry_text o ++ (ascii " width " ++ number o.width ++ ascii "\n") ≡ value_text o
unfolding value_text
value_entry o e = rw (ne_eqb o.sign 2 e) (three (entry_text o) (ascii " width ") (number o.width) (ascii "\n"))
