-- The deltas of the examples, the lines that they are on, and the state of a station that received some of them.
use mathlib.Core.Bool.{true, false}
use mathlib.Core.List.{List, [], ◌∷◌, ◌++◌}
use Prim.Native.Nat.{ℕ, zero, suc, ◌+◌, ◌*◌, ◌-◌, ◌^◌}
use lib.ListN.{replicate}
use lib.IntN.{ℤ, pos, negsuc}
use Rattle.model.specs.Bytes.{bytes, word}
use Rattle.model.specs.Message.{Message}
use Rattle.model.specs.Order.{Origin, State, state_of}
use Rattle.model.specs.Image.{set_of}
use Rattle.model.specs.Compose.{message_of}

-- "Line A is UID 00000000000A, creator 00000001; B and C alike."
abbrev pub line_number : ℕ → ℕ
line_number uid = uid * 2 ^ 32 + 1

abbrev pub line_a : ℕ
line_a = line_number 0xA

abbrev pub line_b : ℕ
line_b = line_number 0xB

abbrev pub line_c : ℕ
line_c = line_number 0xC

abbrev pub A : ℕ → ℕ
A n = line_a * 65536 + n

abbrev pub B : ℕ → ℕ
B n = line_b * 65536 + n

abbrev pub C : ℕ → ℕ
C n = line_c * 65536 + n

abbrev pub command : ℕ → ℕ → ℤ → List ℕ
command operation tag v = operation ∷ tag ∷ 0 ∷ 0 ∷ bytes 4 (word v)

-- commands that are right
abbrev pub right_commands : List ℕ
right_commands = command 1 3 (pos 5)

-- "Group 1 and no dependency unless said."
abbrev pub plain : ℕ → List ℕ → List ℕ → Message
plain s dependencies commands = message_of false s 1 0 0 dependencies commands

abbrev pub urgent : ℕ → ℕ → ℕ → List ℕ → Message
urgent s block priority commands = message_of true s 1 block priority [] commands

-- "A1 sets tag 3 to 1500; B1 adds -20 to tag 3."
abbrev pub a1 : Message
a1 = plain (A 1) [] (command 1 3 (pos 1500))

abbrev pub a2 : Message
a2 = plain (A 2) [] (command 1 3 (pos 7))

abbrev pub b1 : Message
b1 = plain (B 1) [] (command 2 3 (negsuc 19))

abbrev pub c1 : Message
c1 = plain (C 1) [] (command 2 4 (pos 20))

abbrev pub c2 : Message
c2 = plain (C 2) [] (command 2 4 (pos 1))

abbrev pub stopped : Message
stopped = plain (A 1) [] (command 1 3 (pos 999990) ++ command 2 3 (pos 20) ++ command 2 3 (negsuc 19))

abbrev pub b1_5 : Message
b1_5 = urgent (B 1) 1 5 (command 2 3 (negsuc 19))

abbrev pub c1_7 : Message
c1_7 = urgent (C 1) 1 7 (command 2 4 (pos 20))

-- "3 raises the tag to v if it is lower": to 3 it does nothing after 5, to 9 it raises.
abbrev pub raised : Message
raised = plain (A 1) [] (command 1 3 (pos 5) ++ command 3 3 (pos 3) ++ command 3 3 (pos 9) ++ command 3 3 (negsuc 0))

abbrev pub a1_group_2 : Message
a1_group_2 = message_of false (A 1) 2 0 0 [] (command 1 3 (pos 1500))

abbrev pub a1_naming_b1 : Message
a1_naming_b1 = plain (A 1) (B 1 ∷ []) (command 1 3 (pos 1500))

abbrev pub b1_naming_a1 : Message
b1_naming_a1 = plain (B 1) (A 1 ∷ []) (command 2 3 (negsuc 19))

-- "A1 twice, values 1 and 2"
abbrev pub a1_value : ℕ → Message
a1_value v = plain (A 1) [] (command 1 3 (pos v))

-- deltas of this number, each of a line of its own: of number 1 "lone lines", of number 2 held, since the predecessor is missing
abbrev pub lines : ℕ → ℕ → List Message
lines number zero = []
lines number (suc n) = plain (line_number (100 - n) * 65536 + number) [] right_commands ∷ lines number n

-- ---- the station that received these, in whichever order
abbrev pub holding : List Message → State
holding l = state_of (set_of l)

-- ---- the station that purged, and received these since: floors, purged block and group, all base values zero; and of any origin
abbrev pub origin : List ℕ → ℕ → ℕ → Origin
origin floors block group = record { floors = floors; base = replicate 64 (pos 0); block = block; group = group }

abbrev pub after : Origin → List Message → State
after O l = record { deltas = set_of l; origin = O }
