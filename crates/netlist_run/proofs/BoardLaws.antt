-- Running: the values in the table are the board machine's, none wraps, and the outputs are those of the netlist in the bytes.
-- Assumes nothing.
use Prim.Native.Nat.{ℕ, zero, suc, ◌+◌, ◌*◌, ◌-◌, ◌^◌, ◌≤◌, ◌<◌}
use mathlib.Core.Path.{◌≡◌, refl, sym, ap, ap₂, ◌∙◌, subst}
use mathlib.Core.Bool.{Bool, true, false}
use mathlib.Core.List.{List, [], ◌∷◌, ◌++◌, map, append_assoc, append-nil}
use native.Mathlib.Omega.{arith}
use lib.Dec.{leb, ltb, eqb}
use lib.IntN.{ℤ, pos, negsuc}
use lib.ListN.{length, get_or, set, take, drop, drop_of_length-le, length-set, length-map, get_or-map}
use lib.Seq.{sets, sets-eq, drop-cons, get_or-take, take-suc, take-suc-set}
use lib.Signed.{◌≤ℤ◌, ◌<ℤ◌}
use borrow.Author.Tests.{leb-true, le-leb, ltb-true, lt-ltb, eq-eqb, ne_eqb}
use Rattle.integers.proofs.Expression.{nat, below_parts}
use Rattle.integers.proofs.Truth.{same_truth}
use Rattle.limits.specs.Limits.{max_columns, max_shift, max_width, max_symbols}
use Rattle.limits.specs.Size.{SampleWidth}
use Rattle.layout_rules.specs.declared.Head.{Head}
use Rattle.layout_rules.specs.declared.Operation.{Operation}
use Rattle.layout_rules.specs.declared.Output.{Output}
use Rattle.layout_rules.specs.Records.{Netlist}
use Rattle.layout_rules.specs.Places.{head_at, operation_at, output_at, first_records, first_operations, operations_in, outputs_in, netlist_in}
use Rattle.layout_rules.proofs.FirstRecords.{length-first, get_d_first}
use Rattle.board_rules.specs.Machine.{entry_at, operation_value, machine, output_value, entry_form}
use Rattle.board_rules.specs.Netlist.{OperationLimits, OutputOperand}
use Rattle.board_rules.specs.Width.{Samples, positive_part, negative_part, width}
use Rattle.board_rules.specs.Table.{Small, value_appended}
use Rattle.board_rules.proofs.MachineLaws.{output-same}
use Rattle.board_rules.proofs.FormLaws.{entry_form_keeps}
use Rattle.board_rules.proofs.BoundLaws.{widest-shifted, entry_small}
use Rattle.board_rules.proofs.TableLaws.{value_appended_lem}
use Rattle.netlist_rules.specs.declared.RunAnswer.{RunAnswer}
use Rattle.netlist_rules.specs.Read.{Reading, refused, accepted, read_netlist}
use Rattle.netlist_rules.specs.Run.{ran, fits, fit_answer, samples_answer, run_answer, netlist_outputs, run_outputs}
use Rattle.netlist_rules.proofs.RunLaws.{fit-accepts, fit-samples-only, answer-read, outputs-kept, outputs-filled}
use Rattle.netlist_rules.specs.Exact.{read_limits}
use Rattle.netlist_read.specs.Tables.{NetlistRead}
use Rattle.netlist_run.specs.Board.{BoardReady}
use Rattle.netlist_read.proofs.NetlistLaws.{head-limits, operation-there, output-there}

-- ---- values

-- all operations are the first k and some more
more_records : {A : Type 0} (fields : ℕ → A) (k d : ℕ) → (ps : List A) × (first_records fields (k + d) ≡ first_records fields k ++ ps)
unfolding first_records
more_records fields k zero = let e : k + 0 ≡ k = omega arith in ([], rw e (sym (append-nil (first_records fields k))))
more_records fields k (suc d) =
    let m = more_records fields k d in
    let e : k + suc d ≡ suc (k + d) = omega arith in
    (m.0 ++ (fields (k + d) ∷ []), rw e (ap (λ xs. xs ++ (fields (k + d) ∷ [])) m.1 ∙ append_assoc (first_records fields k) m.0 (fields (k + d) ∷ [])))

-- the table after k operations on the samples
pub record BoardAt (b : List ℕ) (n k : ℕ) (xs values : List ℤ) : Type 0 where
  pub room : length values ≡ max_symbols
  pub of_width : Samples (head_at b).width n xs
  pub held : take (n + k) values ≡ machine xs (first_operations b k)

pub board_started : (b : List ℕ) (n : ℕ) (values : List ℤ) → length values ≡ max_symbols → Samples (head_at b).width n (take n values) → BoardAt b n 0 (take n values) values
unfolding machine first_records
board_started b n values room X = let e : n + 0 ≡ n = omega arith in record { room = room; of_width = X; held = rw e refl }

-- the samples, one after another
pub sample_next : (samples values : List ℤ) (j : ℕ) (z : ℤ) → j < length samples → j < length values → z ≡ get_or samples j (pos 0) → take j values ≡ take j samples
    → take (suc j) (set values j z) ≡ take (suc j) samples
sample_next samples values j z h k e t =
    take-suc-set values j z k ∙ ap₂ (λ (l : List ℤ) (y : ℤ). l ++ (y ∷ [])) t e ∙ sym (take-suc samples j (pos 0) h)

module _ (b : List ℕ) (N : NetlistRead b) where
  narrow-before : (k symbol : ℕ) → k ≤ (head_at b).operations → symbol < (head_at b).n + k → width (head_at b).width (entry_form (head_at b).n (first_operations b k) symbol) ≤ max_width
  narrow-before k symbol l h =
      let m = more_records (operation_at b) k ((head_at b).operations - k) in
      let c : k + ((head_at b).operations - k) ≡ (head_at b).operations = omega arith in
      let all : operations_in b ≡ first_operations b k ++ m.0 = ap (first_operations b) (sym c) ∙ m.1 in
      let kept = entry_form_keeps (head_at b).n (first_operations b k) m.0 symbol (omega (arith, length-first (operation_at b) k)) in
      subst (λ cs. width (head_at b).width cs ≤ max_width) (ap (λ os. entry_form (head_at b).n os symbol) all ∙ kept) (N.narrow symbol (omega arith))

  module _ (xs : List ℤ) (X : Samples (head_at b).width (head_at b).n xs) (k : ℕ) (values : List ℤ) (e : take ((head_at b).n + k) values ≡ machine xs (first_operations b k)) where
    pub value-small : k ≤ (head_at b).operations → (symbol shift : ℕ) → symbol < (head_at b).n + k → shift ≤ max_shift → Small (entry_at values symbol) shift
    value-small l symbol shift h s =
        subst (λ z. Small z shift) (sym (sym (get_or-take ((head_at b).n + k) values symbol (pos 0) h) ∙ ap (λ v. entry_at v symbol) e))
        (entry_small (head_at b).width (head_at b).n max_width max_shift (first_operations b k) symbol shift (narrow-before k symbol l h) s widest-shifted xs X)

    pub values_next : k < (head_at b).operations → length values ≡ max_symbols
        → take ((head_at b).n + suc k) (value_appended values (operation_at b k) ((head_at b).n + k)) ≡ machine xs (first_operations b (suc k))
    unfolding first_records
    values_next l room =
        let L = (operation-there b N k l).1 in
        let H = head-limits b N in
        let s : (head_at b).n + suc k ≡ suc ((head_at b).n + k) = omega arith in
        rw s (value_appended_lem xs (first_operations b k) (operation_at b k) values ((head_at b).n + k) e (omega (arith, room, H.limits.columns-most, H.few)) L.first_earlier L.second_earlier)

  module _ (m : ℕ) (same : m ≡ (head_at b).n) (xs : List ℤ) (k : ℕ) (values : List ℤ) (B : BoardAt b m k xs values) where
    abbrev board : BoardAt b (head_at b).n k xs values
    board = subst (λ x. BoardAt b x k xs values) same B

    pub board_small : k ≤ (head_at b).operations → (symbol shift : ℕ) → symbol < m + k → shift ≤ max_shift → Small (entry_at values symbol) shift
    board_small l symbol shift h s = value-small xs board.of_width k values board.held l symbol shift (omega (arith, same, h)) s

    pub board_next : k < (head_at b).operations → BoardAt b m (suc k) xs (value_appended values (operation_at b k) (m + k))
    board_next l = subst (λ x. BoardAt b x (suc k) xs (value_appended values (operation_at b k) (x + k))) (sym same) (record {
      room = length-set values ((head_at b).n + k) (operation_value values (operation_at b k)) ∙ board.room;
      of_width = board.of_width;
      held = values_next xs board.of_width k values board.held l board.room;
    })

  -- ---- outputs

  -- output i of those that are due
  pub result_at : (values : List ℤ) (i : ℕ) → i < (head_at b).m
      → output_value values (output_at b (head_at b).operations i) ≡ get_or (map (output_value values) (outputs_in b)) i (output_value values (output_at b 0 0))
  result_at values i h = sym (
      get_or-map (output_value values) (outputs_in b) i (output_at b 0 0)
      ∙ ap (output_value values) (get_d_first (output_at b (length (operations_in b))) (head_at b).m i (output_at b 0 0) h)
      ∙ ap (λ (k : ℕ). output_value values (output_at b k i)) (length-first (operation_at b) (head_at b).operations))

  pub results_count : (values : List ℤ) → length (map (output_value values) (outputs_in b)) ≡ (head_at b).m
  results_count values = length-map (outputs_in b) (output_value values) ∙ length-first (output_at b (length (operations_in b))) (head_at b).m

  map_first : {A : Type 0} (f g : A → ℤ) (fields : ℕ → A) (m : ℕ) → ((i : ℕ) → i < m → f (fields i) ≡ g (fields i)) → map f (first_records fields m) ≡ map g (first_records fields m)
  unfolding first_records
  map_first f g fields zero h = refl
  map_first f g fields (suc m) h =
      map_snoc f (first_records fields m) (fields m)
      ∙ ap₂ (λ (l : List ℤ) (z : ℤ). l ++ (z ∷ [])) (map_first f g fields m (λ i l. h i (omega arith))) (h m (omega arith))
      ∙ sym (map_snoc g (first_records fields m) (fields m))
    where
      map_snoc : {A : Type 0} (f : A → ℤ) (xs : List A) (x : A) → map f (xs ++ (x ∷ [])) ≡ map f xs ++ (f x ∷ [])
      map_snoc f [] x = refl
      map_snoc f (y ∷ xs) x = ap (λ r. f y ∷ r) (map_snoc f xs x)

  -- from the table as from the machine
  pub outputs-same : (entries values : List ℤ) → take ((head_at b).n + (head_at b).operations) values ≡ entries
      → map (output_value values) (outputs_in b) ≡ map (output_value entries) (outputs_in b)
  outputs-same entries values e =
      map_first (output_value values) (output_value entries) (output_at b (length (operations_in b))) (head_at b).m (λ i h.
      output-same values entries (output_at b (length (operations_in b)) i) (kept (output_at b (length (operations_in b)) i).symbol (below i h)))
    where
      below : (i : ℕ) → i < (head_at b).m → (output_at b (length (operations_in b)) i).symbol < (head_at b).n + (head_at b).operations
      below i h = rw (length-first (operation_at b) (head_at b).operations) (output-there b N i h).1.operand.symbol

      kept : (symbol : ℕ) → symbol < (head_at b).n + (head_at b).operations → entry_at values symbol ≡ entry_at entries symbol
      kept symbol h = sym (get_or-take ((head_at b).n + (head_at b).operations) values symbol (pos 0) h) ∙ ap (λ v. entry_at v symbol) e

-- the same of a netlist's head, its operations and its outputs as they were read
module _ (b : List ℕ) (N : NetlistRead b) (h : Head) (is : h ≡ head_at b) where
  n-is : h.n ≡ (head_at b).n
  n-is = ap (λ (x : Head). x.n) is

  pub symbols-most : h.n + h.operations ≤ max_symbols
  symbols-most = let L = head-limits b N in omega (arith, n-is, ap (λ (x : Head). x.operations) is, L.limits.columns-most, L.few)

  module _ (k : ℕ) (inside : k < h.operations) {o : Operation} (read : o ≡ operation_at b k) where
    among : k < (head_at b).operations
    among = omega (arith, ap (λ (x : Head). x.operations) is)

    pub operation-held : OperationLimits (read_limits (head_at b).width) (h.n + k) o
    operation-held = rw (read, n-is) (operation-there b N k among).1

    module _ (xs values : List ℤ) (B : BoardAt b h.n k xs values) where
      pub operands-small : Small (entry_at values o.a) o.sa × Small (entry_at values o.b) o.sb
      operands-small =
          let L = operation-held in (
            board_small b N h.n n-is xs k values B (omega (arith, among)) o.a o.sa L.first_earlier (omega (arith, L.first-shift)),
            board_small b N h.n n-is xs k values B (omega (arith, among)) o.b o.sb L.second_earlier (omega (arith, L.second-shift)),
          )

      pub board-appended : {new : List ℤ} → new ≡ value_appended values o (h.n + k) → BoardAt b h.n (suc k) xs new
      board-appended e = rw (e ∙ ap (λ (x : Operation). value_appended values x (h.n + k)) read) (board_next b N h.n n-is xs k values B among)

  pub board-end : (k : ℕ) → k ≡ h.operations → (xs values : List ℤ) → BoardAt b h.n k xs values
      → (length values ≡ max_symbols) × (take (h.n + h.operations) values ≡ machine xs (operations_in b))
  board-end k e xs values B =
      (B.room, ap (λ (j : ℕ). take (h.n + j) values) (sym e) ∙ B.held ∙ ap (λ (j : ℕ). machine xs (first_operations b j)) (e ∙ ap (λ (x : Head). x.operations) is))

  module _ (i : ℕ) (inside : i < h.m) {o : Output} (read : o ≡ output_at b h.operations i) where
    due : i < (head_at b).m
    due = omega (arith, ap (λ (x : Head). x.m) is)

    o-is : o ≡ output_at b (head_at b).operations i
    o-is = read ∙ ap (λ (x : Head). output_at b x.operations i) is

    pub output-held : OutputOperand (read_limits (head_at b).width) (h.n + h.operations) o
    output-held = rw o-is (subst (λ (x : Head). OutputOperand (read_limits (head_at b).width) (x.n + x.operations) (output_at b (head_at b).operations i)) (sym is) (output-there b N i due).1.operand)

    pub entry-small : (values : List ℤ) → BoardReady b values → Small (entry_at values o.symbol) o.shift
    entry-small values R = R.small o.symbol o.shift (omega (arith, output-held.symbol, n-is, ap (λ (x : Head). x.operations) is)) (omega (arith, output-held.shift))

    pub result_read : (values : List ℤ) → output_value values o ≡ get_or (map (output_value values) (outputs_in b)) i (output_value values (output_at b 0 0))
    result_read values = ap (output_value values) o-is ∙ result_at b N values i due

  pub results-read : (values : List ℤ) → length (map (output_value values) (outputs_in b)) ≡ h.m
  results-read values = results_count b N values ∙ sym (ap (λ (x : Head). x.m) is)

-- ---- numbers written one after another, over a whole list

pub set_next : (vs l : List ℤ) (j : ℕ) (v d : ℤ) → j < length vs → v ≡ get_or vs j d → sets (set l j v) (suc j) (drop (suc j) vs) ≡ sets l j (drop j vs)
set_next vs l j v d h e = rw (drop-cons vs j d h, e) refl

pub all_set : (vs l : List ℤ) → length vs ≡ length l → sets l 0 vs ≡ vs
all_set vs l e = sets-eq vs l 0 (omega arith) ∙ ap (λ r. vs ++ r) (drop_of_length-le l {i = 0 + length vs} (omega arith)) ∙ append-nil vs

-- ---- a sample's parts say whether it fits

module _ (s half : ℕ) (is : half ≡ 1 * 2 ^ (s - 1)) where
  same_half : half ≡ 2 ^ (s - 1)
  same_half = omega (arith, is)

  pub negative_fits : (x : ℤ) (part : ℕ) → x <ℤ pos 0 → part ≡ negative_part x → leb part half ≡ fits s x
  negative_fits (pos k) part h e = absurd (omega (arith, below_parts (nat k) (nat 0) h))
  negative_fits (negsuc k) part h e =
      same_truth (leb part half) (ltb k (2 ^ (s - 1)))
      (λ t. lt-ltb k (2 ^ (s - 1)) (omega (arith, leb-true part half t, same_half)))
      (λ t. le-leb part half (omega (arith, ltb-true k (2 ^ (s - 1)) t, same_half)))

  pub positive_fits : (x : ℤ) (part : ℕ) → pos 0 ≤ℤ x → part ≡ positive_part x → ltb part half ≡ fits s x
  positive_fits (negsuc k) part h e = absurd h.le
  positive_fits (pos k) part h e = ap₂ ltb e same_half

-- ---- 21: the samples that are left

module _ (s : ℕ) (samples : List ℤ) where
  abbrev after_sample : ℕ → RunAnswer → Bool → RunAnswer
  after_sample i later t = elim t [ true ↦ later | false ↦ ran 21 i ]

  sample-due : (i : ℕ) → i < length samples
      → fit_answer s i (drop i samples) ≡ after_sample i (fit_answer s (suc i) (drop (suc i) samples)) (fits s (get_or samples i (pos 0)))
  unfolding fit_answer
  sample-due i h = rw (drop-cons samples i (pos 0) h) refl

  pub sample-fits : (i : ℕ) → i < length samples → fits s (get_or samples i (pos 0)) ≡ true
      → fit_answer s i (drop i samples) ≡ fit_answer s (suc i) (drop (suc i) samples)
  sample-fits i h e = sample-due i h ∙ ap (after_sample i (fit_answer s (suc i) (drop (suc i) samples))) e

  pub sample-outside : (i : ℕ) → i < length samples → fits s (get_or samples i (pos 0)) ≡ false → fit_answer s i (drop i samples) ≡ ran 21 i
  sample-outside i h e = sample-due i h ∙ ap (after_sample i (fit_answer s (suc i) (drop (suc i) samples))) e

  pub no_sample_left : (i : ℕ) → length samples ≤ i → fit_answer s i (drop i samples) ≡ ran 0 0
  unfolding fit_answer
  no_sample_left i h = rw (drop_of_length-le samples h) refl

-- ---- the answer

abbrev after_netlist : List ℤ → ℕ → Reading Netlist → RunAnswer
after_netlist samples outputs x = elim x [ refused r place ↦ ran r place | accepted net ↦ samples_answer net samples outputs ]

abbrev outputs_after : List ℤ → List ℤ → Reading Netlist → List ℤ
outputs_after samples outputs x = elim x [
  | refused r place ↦ outputs
  | accepted net ↦ elim (samples_answer net samples (length outputs)).refusal [ suc r ↦ outputs | zero ↦ netlist_outputs net samples ]
]

abbrev counted : RunAnswer → Bool → Bool → RunAnswer
counted fit s t = elim s [ false ↦ ran 15 0 | true ↦ elim t [ false ↦ ran 16 0 | true ↦ fit ] ]

module _ (b : List ℕ) (samples outputs : List ℤ) where
  pub run_declines : {r place : ℕ} → read_netlist b ≡ refused r place
      → (ran r place ≡ run_answer b samples (length outputs)) × (outputs ≡ run_outputs b samples outputs)
  unfolding run_answer run_outputs
  run_declines e = (sym (ap (after_netlist samples (length outputs)) e), sym (ap (outputs_after samples outputs) e))

  module _ (net : Netlist) (reads : read_netlist b ≡ accepted net) where
    -- what the samples and the outputs lent are answered with, is run's answer
    declines : (a : RunAnswer) → a ≡ samples_answer net samples (length outputs) → (a.refusal ≡ 0 → ⊥)
        → (a ≡ run_answer b samples (length outputs)) × (outputs ≡ run_outputs b samples outputs)
    declines a e h = (e ∙ sym (answer-read b samples outputs net reads), kept (samples_answer net samples (length outputs)).refusal refl)
      where
        kept : (r : ℕ) → (samples_answer net samples (length outputs)).refusal ≡ r → outputs ≡ run_outputs b samples outputs
        kept zero z = absurd (h (ap (λ (x : RunAnswer). x.refusal) e ∙ z))
        kept (suc r) z = sym (outputs-kept b samples outputs net reads r z)

    by_counts : (s t : Bool) → eqb (length samples) net.head.n ≡ s → eqb (length outputs) net.head.m ≡ t
        → counted (fit_answer net.head.width 0 samples) s t ≡ samples_answer net samples (length outputs)
    unfolding samples_answer
    by_counts s t d e = ap₂ (counted (fit_answer net.head.width 0 samples)) (sym d) (sym e)

    pub samples-differ : (length samples ≡ net.head.n → ⊥) → (ran 15 0 ≡ run_answer b samples (length outputs)) × (outputs ≡ run_outputs b samples outputs)
    samples-differ h = declines (ran 15 0) (by_counts false (eqb (length outputs) net.head.m) (ne_eqb (length samples) net.head.n h) refl) (λ z. omega arith)

    module _ (d : length samples ≡ net.head.n) where
      pub outputs-differ : (length outputs ≡ net.head.m → ⊥) → (ran 16 0 ≡ run_answer b samples (length outputs)) × (outputs ≡ run_outputs b samples outputs)
      outputs-differ h = declines (ran 16 0) (by_counts true false (eq-eqb (length samples) net.head.n d) (ne_eqb (length outputs) net.head.m h)) (λ z. omega arith)

      module _ (e : length outputs ≡ net.head.m) where
        fit_is : fit_answer net.head.width 0 samples ≡ samples_answer net samples (length outputs)
        fit_is = by_counts true true (eq-eqb (length samples) net.head.n d) (eq-eqb (length outputs) net.head.m e)

        pub samples-outside : (a : RunAnswer) → a ≡ fit_answer net.head.width 0 samples → (a.refusal ≡ 0 → ⊥)
            → (a ≡ run_answer b samples (length outputs)) × (outputs ≡ run_outputs b samples outputs)
        samples-outside a f h = declines a (f ∙ fit_is) h

        pub samples-fit : Samples net.head.width net.head.n samples
            → (ran 0 0 ≡ run_answer b samples (length outputs)) × (netlist_outputs net samples ≡ run_outputs b samples outputs)
        samples-fit x =
            let accepts : ran 0 0 ≡ samples_answer net samples (length outputs) = sym (fit-accepts x) ∙ fit_is in (
              accepts ∙ sym (answer-read b samples outputs net reads),
              sym (outputs-filled b samples outputs net reads (ap (λ (a : RunAnswer). a.refusal) (sym accepts))),
            )

-- ---- the answer of a netlist, of its head and of samples as they were read

module _ (b : List ℕ) (N : NetlistRead b) (h : Head) (is : h ≡ head_at b) (samples outputs : List ℤ) where
  columns-are : h.n ≡ (head_at b).n
  columns-are = ap (λ (x : Head). x.n) is

  rows-are : h.m ≡ (head_at b).m
  rows-are = ap (λ (x : Head). x.m) is

  pub width-right : SampleWidth h.width
  width-right = subst (λ (x : Head). SampleWidth x.width) (sym is) (head-limits b N).width

  pub columns-few : h.n ≤ max_columns
  columns-few = omega (arith, columns-are, (head-limits b N).limits.columns-most)

  pub sample-count-refused : (length samples ≡ h.n → ⊥) → (ran 15 0 ≡ run_answer b samples (length outputs)) × (outputs ≡ run_outputs b samples outputs)
  sample-count-refused z = samples-differ b samples outputs (netlist_in b) N.netlist-read (λ e. z (e ∙ sym columns-are))

  module _ (count : length samples ≡ h.n) where
    pub output-count-refused : (length outputs ≡ h.m → ⊥) → (ran 16 0 ≡ run_answer b samples (length outputs)) × (outputs ≡ run_outputs b samples outputs)
    output-count-refused z = outputs-differ b samples outputs (netlist_in b) N.netlist-read (count ∙ columns-are) (λ e. z (e ∙ sym rows-are))

    pub samples-of_width : ran 0 0 ≡ fit_answer h.width 0 samples → Samples h.width h.n samples
    samples-of_width e = fit-samples-only count (sym (ap (λ (a : RunAnswer). a.refusal) e))

    module _ (lent : length outputs ≡ h.m) where
      pub samples-refused : (r place : ℕ) → (r ≡ 0 → ⊥) → ran r place ≡ fit_answer h.width 0 samples
          → (ran r place ≡ run_answer b samples (length outputs)) × (outputs ≡ run_outputs b samples outputs)
      samples-refused r place z e = samples-outside b samples outputs (netlist_in b) N.netlist-read (count ∙ columns-are) (lent ∙ rows-are) (ran r place)
          (e ∙ ap (λ (x : Head). fit_answer x.width 0 samples) is) z

      module _ (X : Samples h.width h.n samples) (values : List ℤ) (T : take (h.n + h.operations) values ≡ machine samples (operations_in b)) where
        at-width : Samples (head_at b).width (head_at b).n samples
        at-width = subst (λ (x : Head). Samples x.width x.n samples) is X

        entries : take ((head_at b).n + (head_at b).operations) values ≡ machine samples (operations_in b)
        entries = subst (λ (x : Head). take (x.n + x.operations) values ≡ machine samples (operations_in b)) is T

        pub board-ready : length values ≡ max_symbols → BoardReady b values
        board-ready room = record { room = room; small = value-small b N samples at-width (head_at b).operations values entries (omega arith) }

        pub run-accepted : (ran 0 0 ≡ run_answer b samples (length outputs)) × (map (output_value values) (outputs_in b) ≡ run_outputs b samples outputs)
        run-accepted =
            let fit = samples-fit b samples outputs (netlist_in b) N.netlist-read (count ∙ columns-are) (lent ∙ rows-are) at-width in
            (fit.0, outputs-same b N (machine samples (operations_in b)) values entries ∙ fit.1)
