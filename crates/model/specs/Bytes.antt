-- Numbers in buffers. A buffer is a list of bytes, numbers below 256. Any list is a legal argument of every definition.
use Rattle.std.specs.Prelude.{Bool, cond, List, [], ◌∷◌, ◌++◌, map, ℕ, zero, suc, ◌+◌, ◌*◌, ◌-◌, ◌/◌, ◌%◌, ◌^◌, take, drop, ltb, ℤ, pos, negsuc}
use Rattle.std.proofs.Math.IntN.{sub_ℕ}
use Rattle.model.specs.Lists.{every}

-- Whether each number is a byte. Of the bytes that a caller lends it always holds.
abbrev pub is_bytes : List ℕ → Bool
is_bytes b = every (λ x. ltb x 256) b

-- "Numbers in buffers are big-endian": the number of a list of bytes, and the bytes of a number, `size` of them.
abbrev pub number_from : ℕ → List ℕ → ℕ
number_from n [] = n
number_from n (x ∷ b) = number_from (n * 256 + x) b

abbrev pub number : List ℕ → ℕ
number b = number_from 0 b

abbrev pub bytes : ℕ → ℕ → List ℕ
bytes zero n = []
bytes (suc size) n = n / 256 ^ size % 256 ∷ bytes size n

-- The number of `size` bytes from `at` on.
abbrev pub field : List ℕ → ℕ → ℕ → ℕ
field b at size = number (take size (drop at b))

-- Fields, each by its place and its size: the bytes of numbers in them, one field behind the other, and the numbers that a buffer has in
-- them. Each field's place is the end of the one before it, so that these read back (`ImageLaws.header-back`).
abbrev pub fields_bytes : List (ℕ × ℕ) → List ℕ → List ℕ
fields_bytes [] k = []
fields_bytes (f ∷ l) [] = []
fields_bytes (f ∷ l) (n ∷ k) = bytes f.1 n ++ fields_bytes l k

abbrev pub numbers_in : List (ℕ × ℕ) → List ℕ → List ℕ
numbers_in l b = map (λ f. field b f.0 f.1) l

-- The first `count` parts of `size` bytes each.
abbrev pub parts : ℕ → ℕ → List ℕ → List (List ℕ)
parts zero size b = []
parts (suc count) size b = take size b ∷ parts count size (drop size b)

-- Lists of bytes end to end.
abbrev pub join : List (List ℕ) → List ℕ
join [] = []
join (b ∷ l) = b ++ join l

-- "values are two's complement": the integer of a number of four bytes, and the number of an integer.
abbrev pub integer : ℕ → ℤ
integer n = cond (ltb n 2147483648) (pos n) (sub_ℕ n 4294967296)

abbrev pub word : ℤ → ℕ
word (pos n) = n
word (negsuc n) = 4294967296 - suc n
