-- The keys at the first k indices, each from its block, and from its delta's priority and header.
use Rattle.std.proofs.Common.{◌≡◌, List, [], ℕ, ◌+◌, ◌*◌, ◌≤◌, ◌<◌, length, get_or, take, sym, subst, ◌∙◌, ap, arith}
use Rattle.std.proofs.Math.Option.{Option}
use Rattle.std.proofs.Math.Seq.{paste}
use Rattle.model.specs.Layout.{capacity, header_size}
use Rattle.model.specs.Message.{Message}
use Rattle.laws_order.specs.ListLaws.{get_d_∈}
use Rattle.message_header.specs.Header.{header_of}
use Rattle.message_header.specs.declared.header.Header.{Header}
use Rattle.log_key.specs.Key.{key_size, priority_number, header_key, HasKey}
use Rattle.log_key.specs.KeyLaws.{stated_is}
use Rattle.set_table.specs.Table.{deltas_of, Holds}
use Rattle.set_table.specs.TableLaws.{table_count}
use Rattle.set_table.specs.PlaceLaws.{entry_long}
use Rattle.log_prepared.specs.Keys.{Keyed, InTable, KeysMade}
use Rattle.log_prepared.specs.KeyMaking.{keys_none, keys_more, keys_all}

pub record Making (pool starts blocks indices : List ℕ) (k : ℕ) (keys : List ℕ) : Type 0 where
  pub made : KeysMade (deltas_of pool starts) blocks (take k indices) keys
  pub of : InTable starts indices
  pub holds : Holds pool starts

pub making_none : (pool starts blocks indices keys : List ℕ) → Keyed keys → InTable starts indices → Holds pool starts → Making pool starts blocks indices 0 keys
making_none pool starts blocks indices keys e f h = record { made = keys_none (deltas_of pool starts) blocks indices keys e; of = f; holds = h }

pub delta_long : (pool starts : List ℕ) (i : ℕ) (m : Message) → Holds pool starts → i < length starts → m ≡ get_or (deltas_of pool starts) i [] → header_size ≤ length m
delta_long pool starts i m h k e = omega (arith, ap length e, entry_long pool starts h i k)

module _ (pool starts blocks indices : List ℕ) (k : ℕ) (keys : List ℕ) (m : Making pool starts blocks indices k keys) where
  pub making_inside : k < length indices → get_or indices k 0 < length starts
  making_inside h = m.of (get_or indices k 0) (get_d_∈ indices k 0 h)

  pub making_small : k < length indices → get_or indices k 0 < capacity
  making_small h = omega (arith, making_inside h, table_count pool starts m.holds)

  pub making_room : k < length indices → HasKey keys (get_or indices k 0)
  making_room h = omega (arith, m.made.size, making_small h)

  pub making_size : length keys ≡ key_size * capacity
  making_size = m.made.size

  pub making_more : k < length indices → (d : Message) → d ≡ get_or (deltas_of pool starts) (get_or indices k 0) [] → (header : Header) → header ≡ header_of d
      → (key : List ℕ) → key ≡ header_key (get_or blocks (get_or indices k 0) 0) (priority_number header.priority) header
      → (next : List ℕ) → next ≡ paste keys (key_size * get_or indices k 0) key key_size → Making pool starts blocks indices (k + 1) next
  making_more h d e header f key g next w =
      let i : ℕ = get_or indices k 0 in
      let delta : Message = get_or (deltas_of pool starts) i [] in
      let block : ℕ = get_or blocks i 0 in
      record {
        made =
            subst (KeysMade (deltas_of pool starts) blocks (take (k + 1) indices)) (sym w)
            (keys_more (deltas_of pool starts) blocks indices keys k key h (making_small h) m.made
            (g ∙ ap (λ (x : Header). header_key block (priority_number x.priority) x) (f ∙ ap header_of e) ∙ ap (λ (p : Option ℕ). header_key block p (header_of delta)) (stated_is delta)));
        of = m.of;
        holds = m.holds;
      }

  pub making_all : length indices ≤ k → KeysMade (deltas_of pool starts) blocks indices keys
  making_all h = keys_all (deltas_of pool starts) blocks indices keys k h m.made

pub ruleset making = (making_none, delta_long, making_inside, making_small, making_room, making_size, making_more, making_all)
