-- A message made of its parts: its fields are the parts, and it passes 3 to 6 where its parts are right.
use Rattle.std.specs.Prelude.{◌≡◌, refl, Bool, cond, ◌&&◌, ℕ, ◌+◌, ◌*◌, ◌/◌, ◌%◌, ◌^◌, ◌≤◌, ◌<◌, drop, eqb, ltb}
use Rattle.std.proofs.Math.Path.{sym, ap₂, subst}
use Rattle.std.proofs.Common.{◌∙◌, ap, arith, length-append, drop-drop, drop_at, eqb→eq, leb→le, lt→ltb}
use Rattle.std.proofs.Math.Bool.{true, false, not}
use mathlib.Core.List.{List, [], ◌∷◌, ◌++◌, map}
use Rattle.std.proofs.Math.ListN.{length}
use Rattle.std.proofs.lemmas.List.{length-map}
use Rattle.std.proofs.Math.Dec.{T, leb, le→leb}
use Rattle.model.specs.Lists.{◌∈◌, has, every, ascending}
use Rattle.model.specs.Bytes.{is_bytes, number, bytes, field, parts, join}
use Rattle.model.specs.Layout.{kind_at, priority_flag_at, length_at, dependencies_offset_at, commands_offset_at, first_zeros_at, last_zeros_at, header_size, sequence_size, command_size, most_dependencies, most_commands, field_limit}
use Rattle.model.specs.Message.{Message, has_priority, dependency_count, command_count, commands_start, total_length, sequence_of, group_of, block_of, priority_of, dependencies_of, commands_of, predecessor_of, numbered, layout_right, numbers_right, dependencies_right, command_right, block_right, content_right, passes}
use Rattle.model.specs.Compose.{message_of}
use Rattle.model.specs.Codes.{commands_sized}
use Rattle.laws_order.specs.TestLaws.{eq→eqb, and_l, and_r, and_i}
use Rattle.laws_wire.specs.BytesLaws.{number_bytes, bytes_is_bytes, is_bytes_append, parts_join, length_join}
use Rattle.laws_wire.specs.MessageLaws.{passes_all}
use Rattle.laws_state.specs.NumberLaws.{all_sized, numbers_back}

one_byte : (x : ℕ) → number (x ∷ []) ≡ x
one_byte x = omega arith

-- ---- numbers of one size, end to end
join_is_bytes : (size : ℕ) (l : List ℕ) → T (is_bytes (join (map (bytes size) l)))
join_is_bytes size [] = tt
join_is_bytes size (n ∷ l) = is_bytes_append (bytes size n) (join (map (bytes size) l)) (bytes_is_bytes size n) (join_is_bytes size l)

-- fields of a size and a number each, and a list of bytes after them
abbrev fields_then : List (ℕ × ℕ) → List ℕ → List ℕ
fields_then [] b = b
fields_then (f ∷ l) b = bytes f.0 f.1 ++ fields_then l b

fields_is_bytes : (l : List (ℕ × ℕ)) (b : List ℕ) → T (is_bytes b) → T (is_bytes (fields_then l b))
fields_is_bytes [] b t = t
fields_is_bytes (f ∷ l) b t = is_bytes_append (bytes f.0 f.1) (fields_then l b) (bytes_is_bytes f.0 f.1) (fields_is_bytes l b t)

-- A message that has these parts, by its fields.
pub record HasParts (flag : Bool) (s group block priority : ℕ) (deps commands : List ℕ) (m : Message) : Type 0 where
  pub flag_byte : field m priority_flag_at 1 ≡ cond flag 1 0
  pub sequence : sequence_of m ≡ s
  pub group_is : group_of m ≡ group
  pub block_is : block_of m ≡ block
  pub priority_is : priority_of m ≡ priority
  pub dependencies : dependencies_of m ≡ deps
  pub commands_behind : drop (commands_start (dependency_count m)) m ≡ commands

-- ---- the parts
module _ (flag : Bool) (s group block priority : ℕ) (deps commands : List ℕ) where
  abbrev pub made : Message
  made = message_of flag s group block priority deps commands

  pub record Parts : Type 0 where
    pub sequence_fits : s < 256 ^ sequence_size
    pub group_fits : group ≤ field_limit
    pub block_fits : block ≤ field_limit
    pub priority_fits : priority ≤ field_limit
    pub few : length deps ≤ most_dependencies
    pub deps_fit : (d : ℕ) → d ∈ deps → d < 256 ^ sequence_size
    pub commands_sized_lem : T (commands_sized commands)

  module _ (p : Parts) where
    made_sequence : sequence_of made ≡ s
    made_sequence = number_bytes sequence_size s p.sequence_fits

    made_group : group_of made ≡ group
    made_group = number_bytes 4 group (let h : group ≤ field_limit = p.group_fits in omega arith)

    made_block : block_of made ≡ block
    made_block = number_bytes 4 block (let h : block ≤ field_limit = p.block_fits in omega arith)

    made_priority : priority_of made ≡ priority
    made_priority = number_bytes 4 priority (let h : priority ≤ field_limit = p.priority_fits in omega arith)

    made_dependency_count : dependency_count made ≡ length deps
    made_dependency_count = one_byte (length deps)

    made_command_count : command_count made ≡ length commands / command_size
    made_command_count = one_byte (length commands / command_size)

    deps_length : length (join (map (bytes sequence_size) deps)) ≡ length deps * sequence_size
    deps_length = length_join sequence_size (map (bytes sequence_size) deps) (all_sized sequence_size deps) ∙ ap (λ (n : ℕ). n * sequence_size) (length-map deps (bytes sequence_size))

    made_dependencies : dependencies_of made ≡ deps
    made_dependencies =
        ap (λ (n : ℕ). map number (parts n sequence_size (join (map (bytes sequence_size) deps) ++ commands))) (made_dependency_count ∙ sym (length-map deps (bytes sequence_size)))
        ∙ ap (map number) (parts_join sequence_size (map (bytes sequence_size) deps) commands (all_sized sequence_size deps))
        ∙ numbers_back sequence_size deps p.deps_fit

    commands_from : drop (commands_start (length deps)) made ≡ commands
    commands_from =
        sym (drop-drop (sequence_size * length deps) header_size made)
        ∙ drop_at (join (map (bytes sequence_size) deps)) commands (sequence_size * length deps) (omega (arith, deps_length))

    made_commands : commands_of made ≡ parts (length commands / command_size) command_size commands
    made_commands =
        ap₂ (λ (C D : ℕ). parts C command_size (drop (commands_start D) made)) made_command_count made_dependency_count
        ∙ ap (parts (length commands / command_size) command_size) commands_from

    pub made_parts : HasParts flag s group block priority deps commands made
    made_parts = record {
      flag_byte = one_byte (cond flag 1 0);
      sequence = made_sequence;
      group_is = made_group;
      block_is = made_block;
      priority_is = made_priority;
      dependencies = made_dependencies;
      commands_behind = ap (λ (D : ℕ). drop (commands_start D) made) made_dependency_count ∙ commands_from;
    }

    sized_bytes : T (is_bytes commands)
    sized_bytes = let t : T (commands_sized commands) = p.commands_sized_lem in search (and_l, and_r) depth 6

    sized_least : command_size ≤ length commands
    sized_least = let t : T (commands_sized commands) = p.commands_sized_lem in let h : T (leb command_size (length commands)) = search (and_l, and_r) depth 6 in leb→le command_size (length commands) h

    sized_most : length commands ≤ command_size * most_commands
    sized_most = let t : T (commands_sized commands) = p.commands_sized_lem in let h : T (leb (length commands) (command_size * most_commands)) = search (and_l, and_r) depth 6 in leb→le (length commands) (command_size * most_commands) h

    sized_eights : length commands % command_size ≡ 0
    sized_eights = let t : T (commands_sized commands) = p.commands_sized_lem in let h : T (eqb (length commands % command_size) 0) = search (and_l, and_r) depth 6 in eqb→eq (length commands % command_size) 0 h

    made_length : length made ≡ total_length (length deps) (length commands / command_size)
    made_length =
        let e : length commands % 8 ≡ 0 = sized_eights in
        let f : length (join (map (bytes sequence_size) deps)) ≡ length deps * 12 = deps_length in
        let g : length made ≡ 40 + length (join (map (bytes sequence_size) deps) ++ commands) = omega arith in
        omega (arith, length-append (join (map (bytes sequence_size) deps)) commands)

    made_bytes : T (is_bytes made)
    made_bytes =
        let few : length deps ≤ 8 = p.few in
        let most : length commands ≤ command_size * most_commands = sized_most in
        and_i (ltb (cond flag 1 0) 256) (is_bytes (length deps ∷ rest)) (small flag)
        (and_i (ltb (length deps) 256) (is_bytes rest) (lt→ltb (length deps) 256 (omega arith))
        (and_i (ltb (length commands / command_size) 256) (is_bytes fields) (lt→ltb (length commands / command_size) 256 (omega arith)) fields_bytes))
      where
        small : (f : Bool) → T (ltb (cond f 1 0) 256)
        small true = tt
        small false = tt

        tail_bytes : T (is_bytes (join (map (bytes sequence_size) deps) ++ commands))
        tail_bytes = is_bytes_append (join (map (bytes sequence_size) deps)) commands (join_is_bytes sequence_size deps) sized_bytes

        fields : List ℕ
        fields = drop 4 made

        rest : List ℕ
        rest = length commands / command_size ∷ fields

        fields_bytes : T (is_bytes fields)
        fields_bytes = fields_is_bytes
            ((2, total_length (length deps) (length commands / command_size)) ∷ (2, header_size) ∷ (2, commands_start (length deps)) ∷ (2, 0)
            ∷ (sequence_size, s) ∷ (4, group) ∷ (4, block) ∷ (4, priority) ∷ (4, 0) ∷ [])
            (join (map (bytes sequence_size) deps) ++ commands) tail_bytes

    made_layout : T (layout_right made)
    unfolding layout_right
    made_layout =
        let D = dependency_count made in
        let C = command_count made in
        let few : length deps ≤ 8 = p.few in
        let most : length commands ≤ command_size * most_commands = sized_most in
        let least : 8 ≤ length commands = sized_least in
        let d : D ≡ length deps = made_dependency_count in
        let c : C ≡ length commands / 8 = made_command_count in
        let t : total_length D C ≡ total_length (length deps) (length commands / command_size) = ap₂ total_length d c in
        let h₀ : T (is_bytes made) = made_bytes in
        let h₁ : T (eqb (field made kind_at 1) 1) = tt in
        let h₂ : T (leb (field made priority_flag_at 1) 1) = flag_byte flag in
        let h₃ : T (leb D most_dependencies) = le→leb D 8 (omega arith) in
        let h₄ : T (leb 1 C) = le→leb 1 C (omega arith) in
        let h₅ : T (leb C most_commands) = le→leb C 8 (omega arith) in
        let h₆ : T (eqb (field made length_at 2) (total_length D C)) =
        eq→eqb (number_bytes 2 (total_length (length deps) (length commands / command_size)) (omega arith) ∙ sym t) in
        let h₇ : T (eqb (length made) (total_length D C)) = eq→eqb (made_length ∙ sym t) in
        let h₈ : T (eqb (field made dependencies_offset_at 2) header_size) = tt in
        let h₉ : T (eqb (field made commands_offset_at 2) (commands_start D)) =
        eq→eqb (number_bytes 2 (commands_start (length deps)) (omega arith) ∙ sym (ap commands_start d)) in
        let h₁₀ : T (eqb (field made first_zeros_at 2) 0) = tt in
        let h₁₁ : T (eqb (field made last_zeros_at 4) 0) = tt in
        search and_i depth 14
      where
        flag_byte : (f : Bool) → T (leb (number (cond f 1 0 ∷ [])) 1)
        flag_byte true = tt
        flag_byte false = tt

    made_priority_flag : has_priority made ≡ flag
    made_priority_flag = go flag
      where
        go : (f : Bool) → eqb (number (cond f 1 0 ∷ [])) 1 ≡ f
        go true = refl
        go false = refl

    -- it passes where its sequences, its dependencies, its block and its commands are right
    pub made_passes : T (numbered s) → T (every numbered deps) → T (ascending deps) → T (not (has s deps))
        → T (every (λ d. not (has d deps)) (predecessor_of s)) → T (block_right flag block priority)
        → T (every command_right (parts (length commands / command_size) command_size commands)) → T (passes made)
    unfolding numbers_right dependencies_right content_right
    made_passes own others up not_own not-predecessor right run =
        passes_all made made_layout
        (subst (λ (x : ℕ). T (numbered x && every numbered (dependencies_of made))) (sym made_sequence) (subst (λ (l : List ℕ). T (numbered s && every numbered l)) (sym made_dependencies) (and_i (numbered s) (every numbered deps) own others)))
        (subst (λ (x : ℕ). T (ascending (dependencies_of made) && not (has x (dependencies_of made)) && every (λ d. not (has d (dependencies_of made))) (predecessor_of x))) (sym made_sequence)
        (subst (λ (l : List ℕ). T (ascending l && not (has s l) && every (λ d. not (has d l)) (predecessor_of s))) (sym made_dependencies)
        (and_i (ascending deps && not (has s deps)) (every (λ d. not (has d deps)) (predecessor_of s)) (and_i (ascending deps) (not (has s deps)) up not_own) not-predecessor)))
        content
      where
        content : T (leb (group_of made) field_limit && leb (block_of made) field_limit && leb (priority_of made) field_limit
            && block_right (has_priority made) (block_of made) (priority_of made) && every command_right (commands_of made))
        content =
            let h₀ : T (leb (group_of made) field_limit) = subst (λ (x : ℕ). T (leb x field_limit)) (sym made_group) (le→leb group field_limit p.group_fits) in
            let h₁ : T (leb (block_of made) field_limit) = subst (λ (x : ℕ). T (leb x field_limit)) (sym made_block) (le→leb block field_limit p.block_fits) in
            let h₂ : T (leb (priority_of made) field_limit) = subst (λ (x : ℕ). T (leb x field_limit)) (sym made_priority) (le→leb priority field_limit p.priority_fits) in
            let h₃ : T (block_right (has_priority made) (block_of made) (priority_of made)) =
            subst (λ (f : Bool). T (block_right f (block_of made) (priority_of made))) (sym made_priority_flag)
            (subst (λ (x : ℕ). T (block_right flag x (priority_of made))) (sym made_block) (subst (λ (x : ℕ). T (block_right flag block x)) (sym made_priority) right)) in
            let h₄ : T (every command_right (commands_of made)) = subst (λ (l : List (List ℕ)). T (every command_right l)) (sym made_commands) run in
            search and_i depth 7
