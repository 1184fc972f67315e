-- Each part is that of the definition.
use mathlib.Core.Path.{◌≡◌, sym, ◌∙◌, ap}
use mathlib.Core.List.{List}
use Prim.Native.Nat.{ℕ, ◌+◌}
use native.Mathlib.Omega.{arith}
use lib.ListN.{length}
use borrow.Author.Rules.{rules}
use Rattle.model.specs.Bytes.{join}
use Rattle.model.specs.Message.{Message}
use Rattle.model.specs.Order.{State}
use Rattle.model.specs.Image.{messages_start}
use Rattle.laws_origin.specs.OriginLaws.{header_room}
use Rattle.set_table.specs.Table.{deltas_of, deltas_at, set_in}
use Rattle.set_table.specs.StartLaws.{start_in}
use Rattle.purge_rest.specs.RestLaws.{first_inside, first_room, base_past}
use Rattle.purge_rest.proofs.find_rest.Statement.{statement}
use Rattle.purge_rest.proofs.find_rest.Tie as tie

-- where the call began, from where the values are known; and that from where the start of the messages is
abbrev began : tie.After-run_log-base → tie.Start
began c = c.before.before.before.before

abbrev ran : tie.After-messages_start-start → tie.After-run_log-base
ran c = c.before.before.before

abbrev gone : tie.Start → List Message
gone s = deltas_at (deltas_of s.args.pool.now s.args.starts.now) s.args.gone.now

start_is : (c : tie.After-messages_start-start) → let a = (began (ran c)).args in c.messages_start-start.result ≡ messages_start (set_in a.pool.now a.starts.now)
start_is c = let a = (began (ran c)).args in c.messages_start-start.ensures ∙ start_in a.pool.now a.starts.now

run-log-requires : tie.Need-run_log-base-requires
run-log-requires c κs = first_inside c.args.pool.now c.args.starts.now c.args.gone.now c.requires

messages-start-requires : tie.Need-messages_start-start-requires
messages-start-requires c κs = let s = began c.before.before in header_room s.args.pool.now s.requires.log.holds.right

end-of-requires : tie.Need-end_of-from-requires
end-of-requires c κs =
    let s = began (ran c) in
    let a = s.args in
    (first_inside a.pool.now a.starts.now a.gone.now s.requires, omega (arith, start_is c, first_room a.pool.now a.starts.now a.gone.now s.requires))

returns : tie.Need-returns
returns c =
    let r = ran c.before in
    let s = began r in
    let S : State = set_in s.args.pool.now s.args.starts.now in
    record {
      base = r.run_log-base.ensures ∙ sym (base_past S (gone s));
      block = c.purged_block-block.ensures;
      group = c.purged_group-group.ensures;
      from = c.end_of-from.ensures ∙ ap (λ (n : ℕ). n + length (join (gone s))) (start_is c.before);
    }

pub find_rest_spec : {M : Type 1} → statement M
find_rest_spec =
    tie.close
    (tie.spec run-log-requires (λ c κs. search rules) (λ c κs. search rules) messages-start-requires end-of-requires returns)
