-- A Matrix Market file is refused with the number and the place of the first test that fails, and accepted where all pass.
-- Assumes nothing.
use Prim.Native.Nat.{ℕ, suc, ◌+◌, ◌-◌, ◌≤◌, ◌<◌}
use mathlib.Core.Path.{◌≡◌, refl, sym, ap, ◌∙◌}
use mathlib.Core.Bool.{Bool, true, false, true≢false}
use mathlib.Core.Logic.{◌↔◌, inl, inr, ⊎_elim}
use mathlib.Core.List.{List, [], ◌∷◌, ◌++◌}
use native.Mathlib.Omega.{arith}
use lib.Dec.{ltb, eqb}
use lib.ListN.{length, get_or, take, length-take}
use lib.Seq.{get_or-take}
use borrow.Author.Tests.{ltb-true, ltb-false, le-ltb, eqb-true, eq-eqb}
use Rattle.limits.specs.Size.{SizeLimits, size_outside}
use Rattle.limits.proofs.Size.{size-within, size-inside}
use Rattle.layout_rules.specs.Tests.{Test, tested, AllPass, FirstFails, first_tests}
use Rattle.layout_rules.proofs.TestLaws.{Decided, behind_test, behind_fault, declined_first, passed_all, all_append, fails_before, fails_after, fails_among, first-all}
use Rattle.market_rules.specs.declared.MarketAnswer.{MarketAnswer}
use Rattle.market_rules.specs.Lines.{line}
use Rattle.market_rules.specs.Forms.{same, first_line, is_size, is_entry, entry_value}
use Rattle.market_rules.specs.Market.{size_index, size_place, file_rows, file_columns, entry_count, entry_lines, entry_place, market_record, market_refused, market_accepted, leading_entry_count, entries_answer, market_answer}
use Rattle.market_rules.specs.Tests.{SizeLine, EntryLine, entry_tests, market_tests}
use Rattle.market_rules.proofs.LineLaws.{leading_passes, leading_stops}
use Rattle.market_rules.proofs.FormLaws.{same-is_equal, line-size, size-line, line_entry, entry_line}

-- ---- 19, for any lines and any places of them

module _ (ls : List (List ℕ)) (place : ℕ → ℕ) (k : ℕ) where
  abbrev Passes : ℕ → Type 0
  Passes i = i < length ls → EntryLine (get_or ls i []) (entry_value (get_or ls i []))

  abbrev line-tests : ℕ → List Test
  line-tests i = tested 19 (place i) (Passes i) ∷ []

  abbrev due : List (List ℕ)
  due = take k ls

  due_entry : (i : ℕ) → i < k → is_entry (get_or ls i []) ≡ is_entry (get_or due i [])
  due_entry i h = ap is_entry (sym (get_or-take k ls i [] h))

  counted-passes : (i : ℕ) → i < k → i < leading_entry_count due → Passes i
  counted-passes i h c l = line_entry (get_or ls i []) (due_entry i h ∙ leading_passes is_entry due i c)

  next_fails : leading_entry_count due < length due → Passes (leading_entry_count due) → ⊥
  next_fails h p =
      let i = leading_entry_count due in
      let entry = (entry_line (get_or ls i []) (entry_value (get_or ls i [])) (p (omega (arith, length-take k ls)))).0 in
      true≢false (sym entry ∙ due_entry i (omega (arith, length-take k ls)) ∙ leading_stops is_entry due h)

  -- where not all lines that are due are entries, the first that is none fails
  lines_fail : leading_entry_count due < length due → FirstFails (first_tests line-tests k) 19 (place (leading_entry_count due))
  unfolding first_tests
  lines_fail h =
      let i = leading_entry_count due in
      let most : suc i + (k - suc i) ≡ k = omega (arith, length-take k ls) in
      rw most at (fails_among 19 (place i) line-tests (suc i) (k - suc i)
      (fails_after 19 (place i) (first_tests line-tests i) (line-tests i) (first-all line-tests i (λ j l. (counted-passes j (omega arith) l, tt)))
      (inl (next_fails h, refl, refl))))

  -- a line that is missing passes its test
  lines_pass : length due ≤ leading_entry_count due → AllPass (first_tests line-tests k)
  lines_pass h = first-all line-tests k (λ i l. (λ there. counted-passes i l (omega (arith, length-take k ls)) there, tt))

  -- an answer behind them
  lines_decided : {X : Type 0} (us : List Test) (later passed : X) (declined : ℕ → ℕ → X) → Decided us later passed declined
      → Decided (first_tests line-tests k ++ us) (elim (ltb (leading_entry_count due) (length due)) [ true ↦ declined 19 (place (leading_entry_count due)) | false ↦ later ]) passed declined
  lines_decided us later passed declined d = go (ltb (leading_entry_count due) (length due)) refl d
    where
      ts : List Test
      ts = first_tests line-tests k

      go : (t : Bool) → ltb (leading_entry_count due) (length due) ≡ t → Decided us later passed declined
          → Decided (ts ++ us) (elim t [ true ↦ declined 19 (place (leading_entry_count due)) | false ↦ later ]) passed declined
      go true e d = inr (19, place (leading_entry_count due), omega arith, refl, fails_before 19 (place (leading_entry_count due)) ts us (lines_fail (ltb-true (leading_entry_count due) (length due) e)))
      go false e (inl a) = inl (a.0, all_append ts us (lines_pass (ltb-false (leading_entry_count due) (length due) e)) a.1)
      go false e (inr f) = inr (f.0, f.1, f.2, f.3, fails_after f.0 f.1 ts us (lines_pass (ltb-false (leading_entry_count due) (length due) e)) f.4)

-- ---- the whole answer

module _ (text : List ℕ) (room : ℕ) where
  abbrev accepted : MarketAnswer
  accepted = market_accepted text

  abbrev its_size : List ℕ
  its_size = line text (size_index text)

  abbrev m : ℕ
  m = file_rows text

  abbrev n : ℕ
  n = file_columns text

  abbrev size : ℕ
  size = length (market_record text)

  -- the tests from 18 on, from 19 on, from 4 on, and from that of the size line on
  abbrev from-count : List Test
  from-count = tested 18 (entry_place text (entry_count text)) (length (entry_lines text) ≡ entry_count text) ∷ tested 6 0 (size ≤ room) ∷ []

  abbrev from_entries : List Test
  from_entries = first_tests (entry_tests text) (entry_count text) ++ from-count

  abbrev from-limits : List Test
  from-limits = tested 4 (size_place text) (SizeLimits m n) ∷ from_entries

  abbrev from-size : List Test
  from-size = tested 17 (size_place text) (SizeLine its_size m n) ∷ from-limits

  entries_decided : Decided from_entries (entries_answer text room) accepted market_refused
  unfolding entries_answer
  entries_decided =
      let count = length (entry_lines text) in
      lines_decided (entry_lines text) (entry_place text) (entry_count text) from-count _ accepted market_refused
      (behind_test (tested 6 0 (size ≤ room) ∷ []) (eqb count (entry_count text)) (count ≡ entry_count text) 18 (entry_place text (entry_count text)) _ accepted market_refused
      (omega arith) (eqb-true count (entry_count text), eq-eqb count (entry_count text))
      (λ e. behind_fault [] (ltb room size) (size ≤ room) 6 0 accepted accepted market_refused (omega arith) (ltb-false room size, le-ltb room size)
      (λ h. inl (refl, tt))))

  pub market_decided : Decided (market_tests text room) (market_answer text room) accepted market_refused
  unfolding market_tests market_answer
  market_decided =
      behind_test from-size (same (line text 0) first_line) (line text 0 ≡ first_line) 17 0 _ accepted market_refused (omega arith) (same-is_equal (line text 0) first_line)
      (λ f. behind_test from-limits (is_size its_size) (SizeLine its_size m n) 17 (size_place text) _ accepted market_refused (omega arith)
      (line-size its_size, λ l. (size-line its_size m n l).0)
      (λ s. behind_fault from_entries (size_outside m n) (SizeLimits m n) 4 (size_place text) (entries_answer text room) accepted market_refused (omega arith)
      (size-within m n, size-inside m n) (λ l. entries_decided)))

  other_number : (r place : ℕ) → 0 < r → accepted ≡ market_refused r place → ⊥
  other_number r place h e = omega (arith, ap (λ (a : MarketAnswer). a.refusal) e)

  -- a refusal is that of the first test that fails
  pub market_refuses : (r place : ℕ) → 0 < r → (market_answer text room ≡ market_refused r place) ↔ FirstFails (market_tests text room) r place
  market_refuses r place h =
      declined_first (market_tests text room) (market_answer text room) accepted market_refused market_decided
      (λ r p s q e. (ap (λ (a : MarketAnswer). a.refusal) e, ap (λ (a : MarketAnswer). a.place) e)) r place (other_number r place h)

  -- an accepting answer says that all pass
  pub market_passes : (market_answer text room ≡ accepted) ↔ AllPass (market_tests text room)
  market_passes = passed_all (market_tests text room) (market_answer text room) accepted market_refused market_decided other_number

  -- refusal 0 says that it accepts
  pub market_accepts : (market_answer text room).refusal ≡ 0 → market_answer text room ≡ accepted
  market_accepts e =
      ⊎_elim (λ a. a.0) (λ d. absurd (omega (arith, d.2, ap (λ (a : MarketAnswer). a.refusal) d.3, e))) market_decided
