-- What is kept from step to step stays what it is: by the columns of the rows, the entries that the code makes are those of the rows.
-- Assumes nothing.
use Prim.Native.Nat.{ℕ, suc, ◌*◌, ◌-◌, ◌/◌, ◌≤◌, ◌<◌}
use mathlib.Core.Path.{◌≡◌, refl, sym, ap, ap₂, ◌∙◌}
use mathlib.Core.List.{List, [], ◌++◌, Memᴰ}
use native.Mathlib.Nat.{mul-le-mul_right}
use native.Mathlib.Omega.{arith}
use lib.ListN.{length, get_or, set, length-set}
use lib.Seq.{get_or-set_other}
use Rattle.limits.specs.Limits.{max_rows, positions, max_terms, max_pairs, term_symbols}
use Rattle.elimination_rules.specs.declared.Divisor.{Divisor}
use Rattle.elimination_rules.specs.Rows.{Row}
use Rattle.elimination_rules.specs.Divisors.{Pair, divisor_of, score}
use Rattle.elimination_rules.specs.Visit.{InRow}
use Rattle.elimination_rules.specs.Elimination.{Scored, all_pairs, rows_after}
use Rattle.elimination_rules.specs.Lookup.{Proper}
use Rattle.elimination_rules.proofs.Order.{DivisorWithin, divisor-within}
use Rattle.elimination_rules.proofs.Pick.{all_pairs_lem}
use Rattle.elimination_rules.proofs.PairScores.{pair-scores, pair-proper}
use Rattle.kept_rules.specs.Kept.{Kept, signs_in, is_first, counted_anew, refreshed, new_pairs_from, gained_table, first_table}
use Rattle.kept_rules.proofs.TablePick.{refreshed_agree, gained_agree}
use Rattle.kept_rules.proofs.Few.{table-few, pairs_few}
use Rattle.kept_rules.proofs.NewPairs.{visited}
use Rattle.kept_rules.proofs.Next.{entries-within, first-kept, next_kept}
use Rattle.elimination_masks.specs.Masks.{TakenAt, Without, Made, mask_score_from, masks_differ_from}
use Rattle.elimination_masks.specs.Columns.{ColumnsOf, TakenMasks, columns_score, columns_differ, columns_first}
use Rattle.elimination_masks.proofs.ColumnLaws.{columns-score, columns-differ, columns-first, taken_masks}
use Rattle.elimination_rows.specs.State.{Ready}
use Rattle.elimination_rows.proofs.Ready.{ready_after}
use Rattle.elimination_rows.proofs.Members.{member_at}
use Rattle.elimination_columns.proofs.After.{columns-after}
use Rattle.elimination_kept.specs.Table.{AllFit, SameBut}
use Rattle.elimination_gained.specs.Gained.{columns_gained, RoomFor}
use Rattle.elimination_state.specs.Running.{Running, StepOf}

-- ---- a table of rows has room

table-room : (symbol : ℕ) (rows : List Row) → Ready symbol rows → (table : List Scored) → Kept rows table → length table ≤ max_pairs
table-room symbol rows ready table kept =
    let pairs : ℕ = max_terms * (max_terms - 1) / 2 in
    let most : length rows * pairs ≤ max_rows * pairs = mul-le-mul_right pairs ready.few in
    omega (arith, table-few rows table kept, pairs_few max_terms rows ready.short, most)

-- and its divisors have columns
pub table_fits : (symbol : ℕ) → symbol ≤ term_symbols → (rows : List Row) → Ready symbol rows → (table : List Scored) → Kept rows table → AllFit table
table_fits symbol few rows ready table kept s member =
    let w = (entries-within positions symbol rows ready.well_formed table kept s member).0 in
    (omega (arith, w.a), omega (arith, w.b), w.ea, w.eb)

-- ---- the entries that rows gain

module _ (symbol next : ℕ) (within : next ≤ term_symbols) (rows : List Row) (ready : Ready next rows) (columns : List (List ℕ)) (of : ColumnsOf rows columns) where
  pub gained-is : columns_gained columns (new_pairs_from symbol 0 rows) ≡ gained_table positions symbol rows
  gained-is = gained_agree (columns_first columns) (is_first positions (signs_in rows)) (columns_score columns) (λ d. score d rows) (new_pairs_from symbol 0 rows)
      (λ x m. (first-same x (visited symbol rows x m).0 (pair-there x m), score-same x (pair-there x m)))
    where
      pair-there : (x : InRow) → Memᴰ x (new_pairs_from symbol 0 rows) → Memᴰ x.pair (all_pairs rows)
      pair-there x m = let v = visited symbol rows x m in all_pairs_lem (get_or rows x.row []) rows (member_at rows x.row [] v.0) x.pair v.1

      divisor-there : (p : Pair) → Memᴰ p (all_pairs rows) → DivisorWithin positions next (divisor_of p)
      divisor-there p m = divisor-within positions next (divisor_of p) rows ready.well_formed (pair-scores positions next rows ready.well_formed p m)

      score-same : (x : InRow) → Memᴰ x.pair (all_pairs rows) → columns_score columns (divisor_of x.pair) ≡ score (divisor_of x.pair) rows
      score-same x m =
          let w = divisor-there x.pair m in
          columns-score next rows columns ready.well_formed ready.few of (divisor_of x.pair) (pair-proper positions next rows ready.well_formed x.pair m)
          (omega (arith, w.a)) (omega (arith, w.b))

      first-same : (x : InRow) → x.row < length rows → Memᴰ x.pair (all_pairs rows) → columns_first columns x ≡ is_first positions (signs_in rows) x
      first-same x l m =
          let w = divisor-there x.pair m in
          columns-first next rows columns ready.well_formed of x (omega (arith, ready.few)) (omega (arith, w.a)) (omega (arith, w.b))

-- ---- the first rows

module _ (n : ℕ) (within : n ≤ term_symbols) (rows : List Row) (ready : Ready n rows) (columns : List (List ℕ)) (of : ColumnsOf rows columns) where
  pub start-room : RoomFor [] (columns_gained columns (new_pairs_from 0 0 rows))
  start-room = rw (gained-is 0 n within rows ready columns of) (table-room n rows ready (first_table positions rows) (first-kept positions n rows ready.well_formed))

  pub start_running : length columns ≡ term_symbols → (table : List Scored) → table ≡ columns_gained columns (new_pairs_from 0 0 rows) → Running rows table columns columns
  start_running count table is = record {
    kept = rw (is, gained-is 0 n within rows ready columns of) (first-kept positions n rows ready.well_formed);
    columns_of = of;
    columns-count = count;
    same-columns = refl;
  }

-- ---- by the columns of a divisor's symbols

score_settled : (columns others : List (List ℕ)) (e : Divisor) → get_or columns e.a [] ≡ get_or others e.a [] → get_or columns e.b [] ≡ get_or others e.b []
    → columns_score columns e ≡ columns_score others e
unfolding columns_score
score_settled columns others e a b = ap₂ (λ (u v : List ℕ). mask_score_from e u v 0 max_rows) a b

differ_settled : (before columns others : List (List ℕ)) (e : Divisor) → get_or columns e.a [] ≡ get_or others e.a [] → get_or columns e.b [] ≡ get_or others e.b []
    → columns_differ before columns e ≡ columns_differ before others e
unfolding columns_differ
differ_settled before columns others e a b = ap₂ (λ (u v : List ℕ). masks_differ_from e (get_or before e.a []) (get_or before e.b []) u v 0 max_rows) a b

-- ---- a step

module _ (symbol : ℕ) (d : Divisor) (rows : List Row) (table : List Scored) (columns after : List (List ℕ))
    (ready : Ready symbol rows) (next : symbol < term_symbols) (of : StepOf symbol d) (running : Running rows table columns after)
    (taken x y : List ℕ) (t : TakenAt taken d (get_or columns d.a []) (get_or columns d.b []))
    (wx : Without x (get_or columns d.a []) taken d.ea) (wy : Without y (get_or (set after d.a x) d.b []) taken d.eb) where
  -- the columns of the divisor's symbols are those after the step
  abbrev partly : List (List ℕ)
  partly = set (set after d.a x) d.b y

  same : partly ≡ set (set columns d.a x) d.b y
  same = ap (λ (cs : List (List ℕ)). set (set cs d.a x) d.b y) running.same-columns

  abbrev rows_next : List Row
  rows_next = rows_after symbol d rows

  pub masks_taken : TakenMasks d rows taken
  masks_taken = taken_masks symbol rows columns ready.well_formed running.columns_of d (omega (arith, of.a)) (omega (arith, of.b)) taken t

  ready_next : Ready (suc symbol) rows_next
  ready_next = ready_after symbol d rows ready

  pub all_fit : AllFit table
  all_fit = table_fits symbol (omega arith) rows ready table running.kept

  pub same_but : SameBut d.a d.b columns partly
  same_but s na nb =
      sym (get_or-set_other (set after d.a x) d.b s y [] nb ∙ get_or-set_other after d.a s x [] na ∙ ap (λ (cs : List (List ℕ)). get_or cs s []) running.same-columns)

  module _ (made : List ℕ) (m : Made made (get_or columns d.a []) taken d.ea) where
    abbrev next_columns : List (List ℕ)
    next_columns = set (set (set columns d.a x) d.b y) symbol made

    next_of : ColumnsOf rows_next next_columns
    next_of =
        columns-after symbol d rows columns taken x y made next of.proper of.a of.b ready.well_formed running.columns-count running.columns_of masks_taken wx (rw running.same-columns at wy) m

    -- an old symbol's column does not change any more
    settled : (s : ℕ) → s < symbol → get_or partly s [] ≡ get_or next_columns s []
    settled s h = ap (λ (cs : List (List ℕ)). get_or cs s []) same ∙ sym (get_or-set_other (set (set columns d.a x) d.b y) symbol s made [] (omega arith))

    refreshed-is : refreshed (columns_differ columns partly) (columns_score partly) table ≡ refreshed (counted_anew positions max_rows rows rows_next) (λ e. score e rows_next) table
    refreshed-is = refreshed_agree (columns_differ columns partly) (counted_anew positions max_rows rows rows_next) (columns_score partly) (λ e. score e rows_next) table
        (λ s member. let w = entries-within positions symbol rows ready.well_formed table running.kept s member in (differ_same s.divisor w.0, score-same s.divisor w.0 w.1))
      where
        differ_same : (e : Divisor) → DivisorWithin positions symbol e → columns_differ columns partly e ≡ counted_anew positions max_rows rows rows_next e
        differ_same e w =
            differ_settled columns partly next_columns e (settled e.a w.a) (settled e.b w.b)
            ∙ columns-differ symbol (suc symbol) rows rows_next columns next_columns ready.well_formed ready_next.well_formed running.columns_of next_of e (omega (arith, w.a)) (omega (arith, w.b))

        score-same : (e : Divisor) → DivisorWithin positions symbol e → Proper e → columns_score partly e ≡ score e rows_next
        score-same e w p =
            score_settled partly next_columns e (settled e.a w.a) (settled e.b w.b)
            ∙ columns-score (suc symbol) rows_next next_columns ready_next.well_formed ready_next.few next_of e p (omega (arith, w.a)) (omega (arith, w.b))

    kept_next : Kept rows_next (refreshed (columns_differ columns partly) (columns_score partly) table ++ columns_gained next_columns (new_pairs_from symbol 0 rows_next))
    kept_next =
        rw (refreshed-is, gained-is symbol (suc symbol) (omega arith) rows_next ready_next next_columns next_of)
        (next_kept positions max_rows symbol d of.proper rows table ready.well_formed ready.few running.kept)

    pub step_room : RoomFor (refreshed (columns_differ columns partly) (columns_score partly) table) (columns_gained next_columns (new_pairs_from symbol 0 rows_next))
    step_room = table-room (suc symbol) rows_next ready_next _ kept_next

    pub step_running : (next_table : List Scored)
        → next_table ≡ refreshed (columns_differ columns partly) (columns_score partly) table ++ columns_gained next_columns (new_pairs_from symbol 0 rows_next)
        → Running rows_next next_table next_columns (set partly symbol made)
    step_running next_table is = record {
      kept = rw is kept_next;
      columns_of = next_of;
      columns-count =
          length-set (set (set columns d.a x) d.b y) symbol made ∙ length-set (set columns d.a x) d.b y ∙ length-set columns d.a x ∙ running.columns-count;
      same-columns = ap (λ (cs : List (List ℕ)). set cs symbol made) same;
    }
