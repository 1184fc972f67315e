-- The steps of a list of calls, played in turn: they lead to the log of the plain station's state, and to no other; played on a list that
-- no purge shortens, to what was purged and then that log.
use Rattle.std.specs.Prelude.{◌≡◌, refl, ◌↔◌, Bool, true, false, cond, ℕ, ◌+◌, take, drop, eqb}
use Rattle.std.proofs.Math.Path.{sym, ap}
use Rattle.std.proofs.Common.{◌∙◌, subst, length-drop, take-append-drop}
use Rattle.std.proofs.Math.Option.{some, some-injective}
use mathlib.Core.List.{List, [], ◌∷◌, ◌++◌, map, reverse, append_assoc}
use Rattle.std.proofs.lemmas.List.{length-reverse}
use Rattle.model.specs.Message.{Message, sequence_of}
use Rattle.model.specs.Order.{State, sequences_of, log_of}
use Rattle.model.specs.Steps.{Step, undo, execute, common, steps_of, read_steps, Plays}
use Rattle.model_runs.specs.Run.{Given, Call, delivery, purging, Event, Run, state_after, log_after, played_from, old_log, gone_by, purged_after, PlayedOn, Played, History, Begins, Answers}
use Rattle.laws_order.specs.ListLaws.{drop_map}
use Rattle.laws_order.specs.StepLaws.{steps_play, plays_unique}
use Rattle.laws_run.specs.LateCalls.{steps_between}
use Rattle.laws_run.specs.CallRuns.{CallFacts}
use Rattle.laws_run.specs.StateRuns.{event_facts}

-- ---- steps do not touch what stands ahead of a log
plays_behind : (ahead old : List ℕ) (steps : List Step) (new : List ℕ) → Plays old steps new → Plays (ahead ++ old) steps (ahead ++ new)
plays_behind ahead old [] new e = ap (λ (l : List ℕ). ahead ++ l) e
plays_behind ahead old (undo s ∷ steps) new p =
    (ahead ++ p.0, ap (λ (l : List ℕ). ahead ++ l) p.1 ∙ sym (append_assoc ahead p.0 (s ∷ [])), plays_behind ahead p.0 steps new p.2)
plays_behind ahead old (execute s ∷ steps) new p =
    subst (λ (l : List ℕ). Plays l steps (ahead ++ new)) (sym (append_assoc ahead old (s ∷ []))) (plays_behind ahead (old ++ s ∷ []) steps new p)

-- ---- what a call's steps find
-- the log that the steps are played from, as sequences
played_names : (c : Call) (code : ℕ) (l : List Message) → played_from c code (sequences_of l) ≡ sequences_of (played_from c code l)
played_names (delivery m steps) code l = refl
played_names (purging K) code l = go (eqb code 0)
  where
    go : (t : Bool) → cond t (drop K (sequences_of l)) (sequences_of l) ≡ sequences_of (cond t (drop K l) l)
    go true = drop_map K sequence_of l
    go false = refl

-- what a call takes off the log stood before what its steps find
purged_parts : (c : Call) (code : ℕ) (l : List Message) → sequences_of l ≡ gone_by c code (sequences_of l) ++ sequences_of (played_from c code l)
purged_parts (delivery m steps) code l = refl
purged_parts (purging K) code l = go (eqb code 0)
  where
    go : (t : Bool) → sequences_of l ≡ cond t (take K (sequences_of l)) [] ++ sequences_of (cond t (drop K l) l)
    go true = sym (take-append-drop K (sequences_of l)) ∙ ap (λ (rest : List ℕ). take K (sequences_of l) ++ rest) (drop_map K sequence_of l)
    go false = refl

-- ---- whole lists
module _ (given : Given) (b : List ℕ) (begun : Begins given b) where
  -- `ahead`: what stands before the log in what the steps are played on, where a call's steps find it before the call's old log
  played_on : (from : Call → ℕ → List ℕ → List ℕ) (ahead : List Event → List ℕ) → ahead [] ≡ []
      → ((e : Event) (earlier : List Event) → from e.call e.answer.code (ahead earlier ++ log_after given earlier)
      ≡ ahead (e ∷ earlier) ++ sequences_of (old_log (state_after given earlier) e.call e.answer.code))
      → (events : List Event) → Run Answers b events → (all : List ℕ) → PlayedOn from events all ↔ (all ≡ ahead events ++ log_after given events)
  unfolding log_of
  played_on from ahead none finds [] run all =
      let start : ahead [] ++ [] ≡ [] = ap (λ (l : List ℕ). l ++ []) none in (λ e. e ∙ sym start, λ e. e ∙ start)
  played_on from ahead none finds (e ∷ earlier) run all = go (played_on from ahead none finds earlier run.1)
    where
      S : State
      S = state_after given earlier

      old : List ℕ
      old = sequences_of (old_log S e.call e.answer.code)

      new : List ℕ
      new = log_after given (e ∷ earlier)

      past : List ℕ
      past = ahead (e ∷ earlier)

      found : from e.call e.answer.code (ahead earlier ++ log_after given earlier) ≡ past ++ old
      found = finds e earlier

      facts : CallFacts S (state_after given (e ∷ earlier)) e.call e.answer
      facts = event_facts given b begun e earlier run

      read : read_steps (e.answer.undos + e.answer.executions) e.answer.steps ≡ some (steps_of old new)
      read = steps_between S (state_after given (e ∷ earlier)) e.call e.answer facts.agrees.records

      plays : Plays (past ++ old) (steps_of old new) (past ++ new)
      plays = plays_behind past old (steps_of old new) new (steps_play old new)

      go : ((l : List ℕ) → PlayedOn from earlier l ↔ (l ≡ ahead earlier ++ log_after given earlier)) → PlayedOn from (e ∷ earlier) all ↔ (all ≡ past ++ new)
      go ih = (
        λ p. plays_unique (steps_of old new) (past ++ old) all (past ++ new)
            (subst (λ (ss : List Step). Plays (past ++ old) ss all) (some-injective _ _ (sym p.4.read ∙ read))
            (subst (λ (l : List ℕ). Plays l (map undo p.1 ++ map execute p.2) all) (ap (from e.call e.answer.code) ((ih p.0).0 p.3) ∙ found) p.5))
            plays,
        λ q. (
          ahead earlier ++ log_after given earlier,
          reverse (drop (common old new) old),
          drop (common old new) new,
          (ih (ahead earlier ++ log_after given earlier)).1 refl,
          record {
            read = read;
            undos = length-reverse (drop (common old new) old) ∙ length-drop (common old new) old ∙ sym facts.agrees.undos;
            executions = length-drop (common old new) new ∙ sym facts.agrees.executions;
          },
          subst (λ (l : List ℕ). Plays l (steps_of old new) all) (sym found) (subst (Plays (past ++ old) (steps_of old new)) (sym q) plays),
        ),
      )

  pub plays_log : (events : List Event) → Run Answers b events → (log : List ℕ) → Played events log ↔ (log ≡ log_after given events)
  plays_log = played_on played_from (λ events. []) refl (λ e earlier. played_names e.call e.answer.code (log_of (state_after given earlier)))

  pub plays_history : (events : List Event) → Run Answers b events → (all : List ℕ) → History events all ↔ (all ≡ purged_after given events ++ log_after given events)
  plays_history = played_on (λ c code log. log) (purged_after given) refl (λ e earlier.
      let old = log_of (state_after given earlier) in
      ap (λ (l : List ℕ). purged_after given earlier ++ l) (purged_parts e.call e.answer.code old)
      ∙ sym (append_assoc (purged_after given earlier) (gone_by e.call e.answer.code (sequences_of old)) (sequences_of (old_log (state_after given earlier) e.call e.answer.code))))
