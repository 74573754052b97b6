-- Document 01, "Matrix record": little-endian fields, two's complement, and the bytes that all records have in common.
-- Assumes nothing.
use Rattle.std.specs.Prelude.{ℕ, ◌+◌, ◌*◌, ◌-◌, ◌/◌, ◌%◌, ◌^◌, cond, List, [], ◌∷◌, ◌++◌, ltb, ℤ, pos, ◌-ℤ◌, length, get_or}

-- the two bytes of a number, little-endian
abbrev pub little_endian : ℕ → List ℕ
little_endian x = x % 256 ∷ x / 256 ∷ []

-- the number whose two bytes, little-endian, stand at a place
abbrev pub word : List ℕ → ℕ → ℕ
word bytes place = get_or bytes place 0 + 256 * get_or bytes (place + 1) 0

-- the number whose four bytes, little-endian, stand at a place
abbrev pub double_word : List ℕ → ℕ → ℕ
double_word bytes place = word bytes place + 65536 * word bytes (place + 2)

-- the number of so many bits, read as two's complement
abbrev pub signed_of : ℕ → ℕ → ℤ
signed_of bits x = cond (ltb x (2 ^ (bits - 1))) (pos x) (pos x -ℤ pos (2 ^ bits))

-- all records: length (2 bytes, counting the whole record), kind (2 bytes), payload
abbrev pub record_bytes : ℕ → List ℕ → List ℕ
record_bytes kind payload = little_endian (4 + length payload) ++ (little_endian kind ++ payload)
