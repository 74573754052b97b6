-- Document 01, "Netlist and board machine": each recorded width is the width of its operation's or output's value, and recording
-- widths changes nothing else.
-- Assumes nothing.
use Prim.Native.Nat.{ℕ, zero, suc, ◌+◌, ◌≤◌, ◌<◌}
use mathlib.Core.Path.{◌≡◌, refl, sym, ap, ◌∙◌}
use mathlib.Core.List.{List, [], ◌∷◌, ◌++◌, map}
use native.Mathlib.Omega.{arith}
use lib.IntN.{ℤ}
use lib.ListN.{length, get_or, replicate, length-append}
use lib.Seq.{append_snoc}
use Rattle.layout_rules.specs.declared.Operation.{Operation}
use Rattle.layout_rules.specs.declared.Output.{Output}
use Rattle.board_rules.specs.Machine.{entry_at, operation_value, machine, output_value, operation_depth, depths, largest, depth, entry_form, output_form}
use Rattle.board_rules.specs.Width.{IsWidth, width}
use Rattle.board_rules.proofs.FormLaws.{entry_form_keeps}
use Rattle.board_rules.proofs.WidthLaws.{width_same, entry_width-is, output-width-is}
use Rattle.sum_rules.specs.Joins.{zero_output}
use Rattle.compile_rules.specs.Compile.{with_width, with_widths, output_with_width}
use Rattle.compile_rules.proofs.Operands.{EachOperation, EachOutput}

-- ---- the machine and depths are as without widths

module _ (s n : ℕ) (all : List Operation) where
  pub machine_with_widths : (symbol : ℕ) (os : List Operation) (xs : List ℤ) → machine xs (with_widths s n all symbol os) ≡ machine xs os
  unfolding with_widths machine
  machine_with_widths symbol [] xs = refl
  machine_with_widths symbol (o ∷ os) xs = machine_with_widths (suc symbol) os (xs ++ (operation_value xs o ∷ []))

  pub depths_with_widths : (symbol : ℕ) (os : List Operation) (ds : List ℕ) → depths ds (with_widths s n all symbol os) ≡ depths ds os
  unfolding with_widths depths
  depths_with_widths symbol [] ds = refl
  depths_with_widths symbol (o ∷ os) ds = depths_with_widths (suc symbol) os (ds ++ (operation_depth ds o ∷ []))

  pub depth_with_widths : (symbol : ℕ) (os : List Operation) → depth n (with_widths s n all symbol os) ≡ depth n os
  unfolding depth
  depth_with_widths symbol os = ap largest (depths_with_widths symbol os (replicate n 0))

  -- only the widths differ
  pub with_widths_keep : (symbol : ℕ) (os : List Operation) → map (with_width 0) (with_widths s n all symbol os) ≡ map (with_width 0) os
  unfolding with_widths
  with_widths_keep symbol [] = refl
  with_widths_keep symbol (o ∷ os) = ap (λ l. with_width 0 o ∷ l) (with_widths_keep (suc symbol) os)

  -- what holds of each operation with its width, from what holds of it without; symbols are below a limit
  pub each_with_width : (P Q : ℕ → Operation → Type 0) (limit : ℕ)
      → ((symbol : ℕ) (o : Operation) → symbol < limit → P symbol o → Q symbol (with_width (width s (entry_form n all symbol)) o))
      → (symbol : ℕ) (os : List Operation) → symbol + length os ≤ limit → EachOperation P symbol os → EachOperation Q symbol (with_widths s n all symbol os)
  unfolding with_widths
  each_with_width P Q limit f symbol [] l h = tt
  each_with_width P Q limit f symbol (o ∷ os) l h = (f symbol o (omega arith) h.0, each_with_width P Q limit f (suc symbol) os (omega arith) h.1)

pub each-output_with_width : (s n : ℕ) (all : List Operation) (P Q : Output → Type 0) → ((o : Output) → P o → Q (output_with_width s n all o))
    → (os : List Output) → EachOutput P os → EachOutput Q (map (output_with_width s n all) os)
each-output_with_width s n all P Q f [] h = tt
each-output_with_width s n all P Q f (o ∷ os) h = (f o h.0, each-output_with_width s n all P Q f os h.1)

-- what an output has besides its width stays; past the last one there is the zero output
pub output_keeps : {A : Type 0} (f : Output → A) (s n : ℕ) (all : List Operation) → ((o : Output) → f (output_with_width s n all o) ≡ f o)
    → (os : List Output) (i : ℕ) → f (get_or (map (output_with_width s n all) os) i zero_output) ≡ f (get_or os i zero_output)
output_keeps f s n all e [] i = refl
output_keeps f s n all e (o ∷ os) zero = e o
output_keeps f s n all e (o ∷ os) (suc i) = output_keeps f s n all e os i

-- ---- the recorded widths, on the operations as recorded

module _ (s n : ℕ) (os : List Operation) where
  pub operation-width : (symbol : ℕ) → IsWidth s n (λ xs. entry_at (machine xs (with_widths s n os n os)) symbol) (width s (entry_form n os symbol))
  operation-width symbol = width_same (λ xs. entry_at (machine xs os) symbol) (λ xs. entry_at (machine xs (with_widths s n os n os)) symbol)
      (λ xs h. ap (λ l. entry_at l symbol) (sym (machine_with_widths s n os n os xs))) (entry_width-is s n os symbol)

  pub output-width : (o : Output) → IsWidth s n (λ xs. output_value (machine xs (with_widths s n os n os)) o) (width s (output_form n os o))
  output-width o = width_same (λ xs. output_value (machine xs os) o) (λ xs. output_value (machine xs (with_widths s n os n os)) o)
      (λ xs h. ap (λ l. output_value l o) (sym (machine_with_widths s n os n os xs))) (output-width-is s n os o)

-- an operation's width is known as soon as it is there: later operations do not change it
pub width_known : (s n : ℕ) (before : List Operation) (o : Operation) (after : List Operation)
    → width s (entry_form n (before ++ (o ∷ after)) (n + length before)) ≡ width s (entry_form n (before ++ (o ∷ [])) (n + length before))
width_known s n before o after =
    ap (λ os. width s (entry_form n os (n + length before))) (sym (append_snoc before o after))
    ∙ ap (width s) (entry_form_keeps n (before ++ (o ∷ [])) after (n + length before) (omega (arith, length-append before (o ∷ []))))
