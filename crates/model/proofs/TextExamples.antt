-- Sequences as text: characters and digits at each end of their ranges, a published DepSeq, texts that are wrong in one place, the
-- sizes at each limit, and whole calls. Inputs and outcomes side by side, and one proof over each list of them.
use mathlib.Core.Path.{◌≡◌, refl}
use mathlib.Core.Bool.{Bool, true, false}
use mathlib.Core.List.{List, [], ◌∷◌, ◌++◌, map}
use Prim.Native.Nat.{ℕ, zero, suc}
use lib.ListN.{take, drop, replicate}
use Rattle.model.specs.Bytes.{bytes}
use Rattle.model.specs.Layout.{sequences_room, text_room}
use Rattle.model.specs.Text.{digit_of, character_of, text_of, sequence_bytes_in, text_right, sequences_right, all_numbered}
use Rattle.model.specs.Calls.{Converted, read_sequences, write_sequences}
use Rattle.model.specs.Program.{without_line_feed, Printed, other_form}

-- ---- characters: each end of 0-9 and A-F and its neighbours, the comma, lower case, 0 and 255
digits : List (ℕ × ℕ)
digits =
    (47, 255) ∷ (48, 0) ∷ (49, 1) ∷ (57, 9) ∷ (58, 255) ∷ (64, 255) ∷ (65, 10) ∷ (66, 11) ∷ (70, 15) ∷ (71, 255)
    ∷ (96, 255) ∷ (97, 255) ∷ (102, 255) ∷ (44, 255) ∷ (0, 255) ∷ (255, 255) ∷ []

digits_hold : map (λ e. digit_of e.0) digits ≡ map (λ e. e.1) digits
unfolding digits digit_of
digits_hold = refl

characters : List (ℕ × ℕ)
characters = (0, 48) ∷ (1, 49) ∷ (9, 57) ∷ (10, 65) ∷ (11, 66) ∷ (15, 70) ∷ []

characters_hold : map (λ e. character_of e.0) characters ≡ map (λ e. e.1) characters
unfolding characters character_of
characters_hold = refl

-- ---- the DepSeq of a delta that document 000 prints: "E9641419D18C02B9495F0008,6401C37EFB366A87F4210003"
abbrev first : List ℕ
first = bytes 12 0xE9641419D18C02B9495F0008

abbrev second : List ℕ
second = bytes 12 0x6401C37EFB366A87F4210003

abbrev first_text : List ℕ
first_text = 69 ∷ 57 ∷ 54 ∷ 52 ∷ 49 ∷ 52 ∷ 49 ∷ 57 ∷ 68 ∷ 49 ∷ 56 ∷ 67 ∷ 48 ∷ 50 ∷ 66 ∷ 57 ∷ 52 ∷ 57 ∷ 53 ∷ 70 ∷ 48 ∷ 48 ∷ 48 ∷ 56 ∷ []

abbrev second_text : List ℕ
second_text = 54 ∷ 52 ∷ 48 ∷ 49 ∷ 67 ∷ 51 ∷ 55 ∷ 69 ∷ 70 ∷ 66 ∷ 51 ∷ 54 ∷ 54 ∷ 65 ∷ 56 ∷ 55 ∷ 70 ∷ 52 ∷ 50 ∷ 49 ∷ 48 ∷ 48 ∷ 48 ∷ 51 ∷ []

abbrev both_text : List ℕ
both_text = first_text ++ 44 ∷ second_text

texts : List (List ℕ × List ℕ)
texts = (first, first_text) ∷ (first ++ second, both_text) ∷ (second ++ first ++ second, second_text ++ 44 ∷ first_text ++ 44 ∷ second_text) ∷ []

texts_hold : map (λ e. text_of e.0) texts ≡ map (λ e. e.1) texts
unfolding texts text_of character_of
texts_hold = refl

sequences_hold : map (λ e. sequence_bytes_in e.1) texts ≡ map (λ e. e.0) texts
unfolding texts sequence_bytes_in digit_of
sequences_hold = refl

-- ---- 13, of a text; true is right
-- one sequence and so many more, joined by commas
abbrev many : ℕ → List ℕ
many zero = first_text
many (suc n) = first_text ++ 44 ∷ many n

-- the text of two with another character at a place
abbrev with : ℕ → ℕ → List ℕ
with place c = take place both_text ++ c ∷ drop (suc place) both_text

right_texts : List (List ℕ × Bool)
right_texts =
    (first_text, true)
    ∷ (both_text, true)
    -- eight, and nine
    ∷ (many 7, true)
    ∷ (many 8, false)
    -- none; one character short, and one over; 48 and 50 beside 49
    ∷ ([], false)
    ∷ (take 23 first_text, false)
    ∷ (first_text ++ 48 ∷ [], false)
    ∷ (take 48 both_text, false)
    ∷ (both_text ++ 48 ∷ [], false)
    -- a comma after the last, and one before the first
    ∷ (first_text ++ 44 ∷ [], false)
    ∷ (44 ∷ first_text, false)
    ∷ (take 24 (44 ∷ first_text), false)
    -- G, a lower-case a and a colon, first and last; a digit and a blank in the place of the comma; the comma one place on
    ∷ (with 0 71, false)
    ∷ (with 48 97, false)
    ∷ (with 23 58, false)
    ∷ (with 24 48, false)
    ∷ (with 24 32, false)
    ∷ (with 25 44, false)
    ∷ (with 48 44, false)
    ∷ (with 48 70, true)
    ∷ []

right_texts_hold : map (λ e. text_right e.0) right_texts ≡ map (λ e. e.1) right_texts
unfolding right_texts text_right digit_of
right_texts_hold = refl

-- ---- 13, of a writer's input: "12 to 96 bytes by twelves"
sizes : List (ℕ × Bool)
sizes = (0, false) ∷ (11, false) ∷ (12, true) ∷ (13, false) ∷ (24, true) ∷ (95, false) ∷ (96, true) ∷ (97, false) ∷ (108, false) ∷ []

sizes_hold : map (λ e. sequences_right (replicate e.0 1)) sizes ≡ map (λ e. e.1) sizes
unfolding sizes sequences_right
sizes_hold = refl

-- ---- 14: a number 0000, alone, first and last; 0100 and 0001 are numbers
numbers : List (List ℕ × Bool)
numbers =
    (bytes 12 0x1230000, false)
    ∷ (bytes 12 0x1230100, true)
    ∷ (bytes 12 1, true)
    ∷ (bytes 12 0x1230000 ++ first, false)
    ∷ (first ++ bytes 12 0, false)
    ∷ (first ++ second, true)
    ∷ []

numbers_hold : map (λ e. all_numbered e.0) numbers ≡ map (λ e. e.1) numbers
unfolding numbers all_numbered
numbers_hold = refl

-- ---- whole calls: what is read and the size of the buffer, whose bytes are 0xEE before; code, size, the bytes written and those past them
abbrev lent : ℕ → List ℕ
lent room = replicate room 0xEE

abbrev outcome : Converted → ℕ × ℕ × List ℕ
outcome a = (a.code, a.size, a.buffer)

abbrev refused : ℕ → ℕ → ℕ × ℕ × List ℕ
refused code room = (code, 0, lent room)

abbrev zero_text : List ℕ
zero_text = take 20 first_text ++ replicate 4 48

reads : List ((List ℕ × ℕ) × (ℕ × ℕ × List ℕ))
reads =
    ((both_text, sequences_room), (0, 24, first ++ second ++ replicate 72 0xEE))
    ∷ ((first_text, 97), (0, 12, first ++ replicate 85 0xEE))
    -- 1 before 13 and 14, 13 before 14
    ∷ ((both_text, 95), refused 1 95)
    ∷ (([], 95), refused 1 95)
    ∷ ((zero_text, 95), refused 1 95)
    ∷ ((zero_text ++ 44 ∷ [], sequences_room), refused 13 sequences_room)
    ∷ ((zero_text, sequences_room), refused 14 sequences_room)
    ∷ ((first_text ++ 44 ∷ zero_text, sequences_room), refused 14 sequences_room)
    ∷ []

reads_hold : map (λ e. outcome (read_sequences e.0.0 (lent e.0.1))) reads ≡ map (λ e. e.1) reads
unfolding reads read_sequences text_right all_numbered sequence_bytes_in digit_of
reads_hold = refl

writes : List ((List ℕ × ℕ) × (ℕ × ℕ × List ℕ))
writes =
    ((first ++ second, text_room), (0, 49, both_text ++ replicate 150 0xEE))
    ∷ ((first, 200), (0, 24, first_text ++ replicate 176 0xEE))
    ∷ ((first, 198), refused 1 198)
    ∷ (([], 198), refused 1 198)
    ∷ ((replicate 12 0, 198), refused 1 198)
    ∷ ((replicate 13 0, text_room), refused 13 text_room)
    ∷ ((replicate 12 0, text_room), refused 14 text_room)
    ∷ ((first ++ replicate 12 0, text_room), refused 14 text_room)
    ∷ []

writes_hold : map (λ e. outcome (write_sequences e.0.0 (lent e.0.1))) writes ≡ map (λ e. e.1) writes
unfolding writes write_sequences sequences_right all_numbered text_of character_of
writes_hold = refl

-- ---- the program `sequences`: an input; the code and what is printed
forms : List (List ℕ × (ℕ × List ℕ))
forms =
    -- a text with a line feed and without, and bytes
    (both_text ++ 10 ∷ [], (0, first ++ second))
    ∷ (first_text, (0, first))
    ∷ (first ++ second, (0, both_text ++ 10 ∷ []))
    -- the last byte of a number may be a line feed; bytes that are all printable are a text
    ∷ (bytes 12 0x0A, (0, replicate 23 48 ++ 65 ∷ 10 ∷ []))
    ∷ (replicate 12 32, (13, []))
    ∷ (replicate 11 32 ++ 127 ∷ [], (0, text_of (replicate 11 32 ++ 127 ∷ []) ++ 10 ∷ []))
    -- mistyped, two line feeds, nothing
    ∷ (take 23 first_text ++ 71 ∷ [], (13, []))
    ∷ (take 23 first_text ++ 10 ∷ [], (13, []))
    ∷ (first_text ++ 10 ∷ 10 ∷ [], (13, []))
    ∷ ([], (13, []))
    -- number 0000, of either form
    ∷ (zero_text ++ 10 ∷ [], (14, []))
    ∷ (replicate 12 0, (14, []))
    ∷ []

abbrev shown : Printed → ℕ × List ℕ
shown p = (p.code, p.output)

forms_hold : map (λ e. shown (other_form e.0)) forms ≡ map (λ e. e.1) forms
unfolding forms other_form without_line_feed text_right all_numbered sequences_right sequence_bytes_in text_of digit_of character_of
forms_hold = refl
