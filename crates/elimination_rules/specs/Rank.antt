-- Document 01, "Elimination": a divisor's place in the order among equal scores as one number, so that one comparison decides. These are
-- second definitions: on divisors within the limits they agree with `shallower`, by the law of proofs/Rank.
-- Assumes nothing.
use Rattle.std.specs.Prelude.{ℕ, ◌+◌, ◌*◌, ◌/◌, ◌%◌, Bool, true, false, List, ltb, eqb}
use Rattle.elimination_rules.specs.declared.Divisor.{Divisor}
use Rattle.elimination_rules.specs.Elimination.{divisor_depth}

-- a symbol and an exponent have room for so many values: powers of two, so that a number is taken apart by shifts
abbrev pub symbol_room : ℕ
symbol_room = 512

abbrev pub exponent_room : ℕ
exponent_room = 32

-- plus before minus
abbrev pub sign_key : Bool → ℕ
sign_key false = 0
sign_key true = 1

-- the smallest a, then b, then ea, then eb, then the sign
abbrev pub divisor_key : Divisor → ℕ
divisor_key d = (((d.a * symbol_room + d.b) * exponent_room + d.ea) * exponent_room + d.eb) * 2 + sign_key d.minus

abbrev pub key_room : ℕ
key_room = symbol_room * symbol_room * exponent_room * exponent_room * 2

-- the divisor of a key
unfoldable pub key_divisor : ℕ → Divisor
key_divisor key = record {
  a = key / (symbol_room * exponent_room * exponent_room * 2);
  b = key / (exponent_room * exponent_room * 2) % symbol_room;
  ea = key / (exponent_room * 2) % exponent_room;
  eb = key / 2 % exponent_room;
  minus = eqb (key % 2) 1;
}

-- the smallest depth, then the smallest key
abbrev pub divisor_rank : List ℕ → Divisor → ℕ
divisor_rank depths d = divisor_depth depths d * key_room + divisor_key d

abbrev pub lower_rank : List ℕ → Divisor → Divisor → Bool
lower_rank depths d e = ltb (divisor_rank depths d) (divisor_rank depths e)
