-- The edge in place leaves what the edge is defined to leave.
-- Assumes nothing.
use Prim.Native.Nat.{ℕ, zero, suc, ◌+◌, ◌-◌, ◌≤◌, ◌<◌}
use mathlib.Core.Path.{◌≡◌, refl, sym, ◌∙◌, ap}
use mathlib.Core.List.{List, ◌∷◌, ◌++◌, append_assoc}
use native.Mathlib.Omega.{arith}
use native.Mathlib.Decide.{dec_lt}
use lib.IntN.{ℤ, pos}
use lib.ListN.{length, take, drop, get_or, set, take-append-drop, length-append, length-drop, length-set, get_or-append}
use lib.Seq.{take-suc-set, drop-set-lt, drop-cons, append_snoc, take_at, drop_at, drop-append-add, drop-drop, get_or-drop, get_or-take, get_or-append-add, length-take-le, sets, sets-eq, ext_get_or}
use Rattle.layout_rules.specs.Records.{Netlist}
use Rattle.board_rules.specs.Machine.{entry_at}
use Rattle.layout_rules.proofs.FirstRecords.{length-first, get_d_first}
use Rattle.clock_rules.specs.Delays.{symbols, longest_delay, delays_below, registers, delay_place}
use Rattle.clock_rules.specs.Clocked.{delayed, operations_after, symbol_after, delays_after, edge}
use Rattle.clock_rules.specs.Tables.{LongestHeld, NoDelays}
use Rattle.clock_rules.specs.InPlace.{shifted_in, delays_shifted, shifted_by, delays_in, edge_in_place}
use Rattle.clock_rules.proofs.DelayLaws.{delays-below_next, length-delays-after, length-operations-after}

-- what stands in the registers afterwards, before and behind them being as it was
pub shifted_in_is : (store : List ℤ) (place count : ℕ) (value : ℤ) → place + count ≤ length store
    → shifted_in store place count value ≡ take place store ++ (take count (value ∷ drop place store) ++ drop (place + count) store)
unfolding shifted_in
shifted_in_is store place zero value h =
    let e : place + 0 ≡ place = omega arith in
    rw e (sym (take-append-drop place store))
shifted_in_is store place (suc count) value h =
    let s : List ℤ = set store place value in
    let e : suc place + count ≡ place + suc count = omega arith in
    let behind : drop (suc place) s ≡ drop (suc place) store = drop-set-lt (suc place) store place value (omega arith) in
    let rest : drop (place + suc count) s ≡ drop (place + suc count) store = drop-set-lt (place + suc count) store place value (omega arith) in
    shifted_in_is s (suc place) count (entry_at store place) (omega (arith, length-set store place value))
    ∙ rw (e, behind, rest, take-suc-set store place value (omega arith), sym (drop-cons store place (pos 0) (omega arith)))
    (append_snoc (take place store) value (take count (drop place store) ++ drop (place + suc count) store))

-- the same of registers behind a front of known length
shifted_in_behind : (front behind : List ℤ) (place count : ℕ) (value : ℤ) → length front ≡ place → count ≤ length behind
    → shifted_in (front ++ behind) place count value ≡ front ++ (take count (value ∷ behind) ++ drop count behind)
shifted_in_behind front behind place count value l h =
    let e : drop (place + count) (front ++ behind) ≡ drop count behind =
    ap (λ n. drop (n + count) (front ++ behind)) (sym l) ∙ drop-append-add front behind count in
    shifted_in_is (front ++ behind) place count value (omega (arith, length-append front behind))
    ∙ rw (take_at front behind place l, drop_at front behind place l, e) refl

-- the same where more registers stand between
shifted_in_last : (front new behind : List ℤ) (place count : ℕ) (value : ℤ) → length front + length new ≡ place → count ≤ length behind
    → shifted_in (front ++ (new ++ behind)) place count value ≡ front ++ ((new ++ take count (value ∷ behind)) ++ drop count behind)
shifted_in_last front new behind place count value l h =
    let line : List ℤ = take count (value ∷ behind) in
    ap (λ s. shifted_in s place count value) (sym (append_assoc front new behind))
    ∙ shifted_in_behind (front ++ new) behind place count value (length-append front new ∙ l) h
    ∙ append_assoc front new (line ++ drop count behind)
    ∙ ap (λ s. front ++ s) (sym (append_assoc new line (drop count behind)))

module _ (net : Netlist) (xs store : List ℤ) (size : length xs ≡ net.head.n) (room : registers net ≤ length store) where
  abbrev operations : ℕ
  operations = length net.operations

  -- a symbol's delays after the edge, as its value before those that it had, without the last
  symbol-after-is : (symbol : ℕ) → symbol < symbols net
      → symbol_after net xs store symbol ≡ take (longest_delay net symbol) (entry_at (xs ++ store) symbol ∷ drop (delay_place net symbol) store)
  symbol-after-is symbol h =
      let longest : ℕ = longest_delay net symbol in
      let line : List ℤ = entry_at (xs ++ store) symbol ∷ drop (delay_place net symbol) store in
      let whole : length (take longest line) ≡ longest =
      length-take-le longest line (omega (arith, length-drop (delay_place net symbol) store, delays-below_next net symbol (symbols net) h)) in
      ext_get_or (pos 0) (symbol_after net xs store symbol) (take longest line) (length-first (delayed net xs store symbol) longest ∙ sym whole)
      (λ i l.
      let within : i < longest = omega (arith, length-first (delayed net xs store symbol) longest) in
      get_d_first (delayed net xs store symbol) longest i (pos 0) within ∙ value i ∙ sym (get_or-take longest line i (pos 0) within))
    where
      value : (i : ℕ) → delayed net xs store symbol i ≡ entry_at (entry_at (xs ++ store) symbol ∷ drop (delay_place net symbol) store) i
      value zero = refl
      value (suc i) = sym (get_or-drop (delay_place net symbol) store i (pos 0))

  -- a symbol's value is read from the registers at the front, which the shift leaves
  same_front : (rest : List ℤ) (symbol : ℕ) → symbol < symbols net → entry_at (xs ++ (take operations store ++ rest)) symbol ≡ entry_at (xs ++ store) symbol
  same_front rest symbol h = read (dec_lt symbol (length xs))
    where
      read : Dec (symbol < length xs) → entry_at (xs ++ (take operations store ++ rest)) symbol ≡ entry_at (xs ++ store) symbol
      read (yes l) = get_or-append xs (take operations store ++ rest) (pos 0) symbol l ∙ sym (get_or-append xs store (pos 0) symbol l)
      read (no l) =
          let k : ℕ = symbol - length xs in
          let e : symbol ≡ length xs + k = omega arith in
          let within : k < operations = omega arith in
          rw e (
          get_or-append-add xs (take operations store ++ rest) k (pos 0)
          ∙ get_or-append (take operations store) rest (pos 0) k (omega (arith, length-take-le operations store (omega arith)))
          ∙ get_or-take operations store k (pos 0) within
          ∙ sym (get_or-append-add xs store k (pos 0))
          )

  -- the delays below a symbol are new, the others as they were
  pub delays-shifted-is : (symbol : ℕ) → symbol ≤ symbols net
      → delays_shifted net xs store symbol ≡ take operations store ++ (delays_after net xs store symbol ++ drop (delay_place net symbol) store)
  unfolding delays_shifted delays_after delays_below
  delays-shifted-is zero h = let e : operations + 0 ≡ operations = omega arith in rw e (sym (take-append-drop operations store))
  delays-shifted-is (suc symbol) h =
      let front : List ℤ = take operations store in
      let new : List ℤ = delays_after net xs store symbol in
      let behind : List ℤ = drop (delay_place net symbol) store in
      let longest : ℕ = longest_delay net symbol in
      let before : delays_shifted net xs store symbol ≡ front ++ (new ++ behind) = delays-shifted-is symbol (omega arith) in
      let value : entry_at (xs ++ (front ++ (new ++ behind))) symbol ≡ entry_at (xs ++ store) symbol = same_front (new ++ behind) symbol h in
      let line : take longest (entry_at (xs ++ store) symbol ∷ behind) ≡ symbol_after net xs store symbol = sym (symbol-after-is symbol h) in
      let next : delay_place net symbol + longest ≡ delay_place net (suc symbol) = omega arith in
      let left : drop longest behind ≡ drop (delay_place net (suc symbol)) store =
      drop-drop longest (delay_place net symbol) store ∙ ap (λ p. drop p store) next in
      let most : delays_below net symbol + longest ≤ delays_below net (symbols net) = delays-below_next net symbol (symbols net) h in
      ap (λ l. shifted_in l (delay_place net symbol) longest (entry_at (xs ++ l) symbol)) before
      ∙ ap (shifted_in (front ++ (new ++ behind)) (delay_place net symbol) longest) value
      ∙ shifted_in_last front new behind (delay_place net symbol) longest (entry_at (xs ++ store) symbol)
      (omega (arith, length-take-le operations store (omega arith), length-delays-after net xs store symbol))
      (omega (arith, length-drop (delay_place net symbol) store))
      ∙ rw (line, left) refl

  pub edge_in_place_lem : edge_in_place net xs store ≡ edge net xs store
  unfolding edge_in_place edge
  edge_in_place_lem =
      let values : List ℤ = operations_after net xs store net.head.n net.operations in
      let front : List ℤ = take operations store in
      let rest : List ℤ = delays_after net xs store (symbols net) ++ drop (registers net) store in
      let behind : length front ≡ operations = length-take-le operations store (omega arith) in
      let count : 0 + length values ≡ operations = omega (arith, length-operations-after net xs store net.head.n net.operations) in
      ap (λ l. sets l 0 values) (delays-shifted-is (symbols net) (omega arith))
      ∙ sets-eq values (front ++ rest) 0 (omega (arith, length-append front rest))
      ∙ ap (λ l. values ++ l) (ap (λ p. drop p (front ++ rest)) count ∙ drop_at front rest operations behind)

-- ---- by a table of the longest delays

pub length-shifted_in : (store : List ℤ) (place count : ℕ) (value : ℤ) → length (shifted_in store place count value) ≡ length store
unfolding shifted_in
length-shifted_in store place zero value = refl
length-shifted_in store place (suc count) value =
    length-shifted_in (set store place value) (suc place) count (entry_at store place) ∙ length-set store place value

module _ (net : Netlist) (longest : List ℕ) (table : LongestHeld net longest) where
  delays_in_lem : (symbol more : ℕ) → symbol + more ≡ symbols net → delays_below net symbol + delays_in longest symbol more ≡ delays_below net (symbols net)
  unfolding delays_in delays_below
  delays_in_lem symbol zero e = let f : symbol ≡ symbols net = omega arith in ap (λ s. delays_below net s + 0) f ∙ omega arith
  delays_in_lem symbol (suc more) e = omega (arith, delays_in_lem (suc symbol) more (omega arith), table.held symbol (omega arith))

  -- the delays and the operations' registers are all registers
  pub delays_in_all : length net.operations + delays_in longest 0 (symbols net) ≡ registers net
  unfolding delays_below
  delays_in_all = omega (arith, delays_in_lem 0 (symbols net) (omega arith))

  module _ (xs store : List ℤ) where
    by_from : (symbol more : ℕ) → symbol + more ≡ symbols net
        → shifted_by longest xs (delays_shifted net xs store symbol) (delay_place net symbol) symbol more ≡ delays_shifted net xs store (symbols net)
    unfolding shifted_by delays_shifted delays_below
    by_from symbol zero e = let f : symbol ≡ symbols net = omega arith in ap (delays_shifted net xs store) f
    by_from symbol (suc more) e =
        let f : delay_place net symbol + longest_delay net symbol ≡ delay_place net (suc symbol) = omega arith in
        rw (table.held symbol (omega arith), f) (by_from (suc symbol) more (omega arith))

    pub shifted_by_is : shifted_by longest xs store (length net.operations) 0 (symbols net) ≡ delays_shifted net xs store (symbols net)
    unfolding delays_shifted delays_below
    shifted_by_is = let e : length net.operations + 0 ≡ length net.operations = omega arith in rw e at (by_from 0 (symbols net) (omega arith))

    -- the delays shifted by the table, then the operations' values stored: the edge
    pub edge_by_table : length xs ≡ net.head.n → registers net ≤ length store
        → sets (shifted_by longest xs store (length net.operations) 0 (symbols net)) 0 (operations_after net xs store net.head.n net.operations) ≡ edge net xs store
    unfolding edge_in_place
    edge_by_table size room =
        ap (λ l. sets l 0 (operations_after net xs store net.head.n net.operations)) shifted_by_is ∙ edge_in_place_lem net xs store size room

-- ---- symbols without delays are passed over

module _ (longest : List ℕ) where
  delays_past : (symbol more : ℕ) → get_or longest symbol 0 ≡ 0 → delays_in longest symbol (suc more) ≡ delays_in longest (suc symbol) more
  unfolding delays_in
  delays_past symbol more none = omega arith

  shifted_past : (xs store : List ℤ) (place symbol more : ℕ) → get_or longest symbol 0 ≡ 0
      → shifted_by longest xs store place symbol (suc more) ≡ shifted_by longest xs store place (suc symbol) more
  unfolding shifted_by shifted_in
  shifted_past xs store place symbol more none = let e : place + 0 ≡ place = omega arith in rw (none, e) refl

  -- what a step past one symbol leaves as it is, steps past more of them leave as it is
  over : {A : Type 0} (f : ℕ → ℕ → A) → ((symbol more : ℕ) → get_or longest symbol 0 ≡ 0 → f symbol (suc more) ≡ f (suc symbol) more)
      → (d from more : ℕ) → NoDelays longest from (from + d) → f from (d + more) ≡ f (from + d) more
  over f past zero from more none = let e : from + 0 ≡ from = omega arith in let g : 0 + more ≡ more = omega arith in rw (e, g) refl
  over f past (suc d) from more none =
      let e : suc d + more ≡ suc (d + more) = omega arith in
      let g : from + suc d ≡ suc from + d = omega arith in
      rw (e, g) (past from (d + more) (none from (omega arith) (omega arith)) ∙ over f past d (suc from) more (λ s l u. none s (omega arith) (omega arith)))

  -- up to a symbol, of all that are left
  module _ (symbols from to : ℕ) (h : from ≤ to) (l : to ≤ symbols) (none : NoDelays longest from to) where
    over-to : {A : Type 0} (f : ℕ → ℕ → A) → ((symbol more : ℕ) → get_or longest symbol 0 ≡ 0 → f symbol (suc more) ≡ f (suc symbol) more)
        → f from (symbols - from) ≡ f to (symbols - to)
    over-to f past =
        let there : from + (to - from) ≡ to = omega arith in
        let left : to - from + (symbols - to) ≡ symbols - from = omega arith in
        rw (left, there) at (over f past (to - from) from (symbols - to) (λ s i u. none s i (omega arith)))

    pub no_delays_in : delays_in longest from (symbols - from) ≡ delays_in longest to (symbols - to)
    no_delays_in = over-to (delays_in longest) delays_past

    pub none-shifted : (xs store : List ℤ) (place : ℕ)
        → shifted_by longest xs store place from (symbols - from) ≡ shifted_by longest xs store place to (symbols - to)
    none-shifted xs store place = over-to (shifted_by longest xs store place) (shifted_past xs store place)
