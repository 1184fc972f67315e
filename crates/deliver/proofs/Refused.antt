-- What deliver answers where one of its checks refuses, and what is known where all of them pass.
use Rattle.std.specs.Prelude.{◌≡◌, true, false, not, List, ℕ, ◌+◌, length, take, eqb, Err}
use Rattle.std.proofs.Common.{sym, eqb-true, ltb-false}
use Rattle.std.proofs.lemmas.Bool.{not-true, not-false}
use Rattle.model.specs.Layout.{image_size, message_room, step_room}
use Rattle.model.specs.Message as message
use Rattle.model.specs.Message.{Message, layout_right, numbers_right, dependencies_right, content_right}
use Rattle.model.specs.Image.{is_image}
use Rattle.model.specs.Codes.{Conditions, small_steps, deliver_conditions}
use Rattle.model.specs.Calls.{deliver}
use Rattle.laws_order.specs.TestLaws.{true_T}
use Rattle.laws_codes.specs.Ladder.{Passed, met, free, fails, passes, either}
use Rattle.refusals.specs.declared.Refusal.TheVariants.{WrongSize, NoImage, WrongLayout, WrongNumber, WrongDependencies, WrongContent}
use Rattle.message_checks.specs.PassLaws.{passes_by}
use Rattle.image_listed.specs.declared.Station.{Station}
use Rattle.image_judged.specs.Judging.{IsStation}
use Rattle.deliver_taking.specs.Answer.{delivered_by}
use Rattle.deliver_taking.specs.Taking.{Takeable}
use Rattle.deliver_taking.specs.DeliverCases.{answered}

module _ (b : List ℕ) (m : Message) (steps : List ℕ) where
  abbrev ladder : Conditions
  ladder = deliver_conditions b m (length steps)

  pub wrong_image : eqb (length b) image_size ≡ false → delivered_by (Err WrongSize) b steps ≡ deliver b m steps
  wrong_image e = answered b m steps (either _ _ (fails (sym e)))

  module _ (size : eqb (length b) image_size ≡ true) where
    pub wrong_steps : not (small_steps (length steps)) ≡ false → delivered_by (Err WrongSize) b steps ≡ deliver b m steps
    wrong_steps e = answered b m steps (either _ _ (passes (sym size) (met (not-false _ e))))

    module _ (room : not (small_steps (length steps)) ≡ true) where
      sizes_passed : Passed 1 ladder
      sizes_passed n r = either _ _ (passes (sym size) (free (not-true _ room) r))

      pub no_image : is_image b ≡ false → delivered_by (Err NoImage) b steps ≡ deliver b m steps
      no_image e = answered b m steps (sizes_passed 2 (fails (sym e)))

      module _ (image : is_image b ≡ true) where
        image_passed : Passed 2 ladder
        image_passed n r = sizes_passed n (passes (sym image) r)

        -- 3 to 6
        pub wrong_layout : layout_right m ≡ false → delivered_by (Err WrongLayout) b steps ≡ deliver b m steps
        wrong_layout e = answered b m steps (image_passed 3 (fails (sym e)))

        module _ (laid : layout_right m ≡ true) where
          pub wrong_number : numbers_right m ≡ false → delivered_by (Err WrongNumber) b steps ≡ deliver b m steps
          wrong_number e = answered b m steps (image_passed 4 (passes (sym laid) (fails (sym e))))

          module _ (numbered : numbers_right m ≡ true) where
            pub wrong_dependencies : dependencies_right m ≡ false → delivered_by (Err WrongDependencies) b steps ≡ deliver b m steps
            wrong_dependencies e = answered b m steps (image_passed 5 (passes (sym laid) (passes (sym numbered) (fails (sym e)))))

            module _ (depends : dependencies_right m ≡ true) where
              pub wrong_content : content_right m ≡ false → delivered_by (Err WrongContent) b steps ≡ deliver b m steps
              wrong_content e = answered b m steps (image_passed 6 (passes (sym laid) (passes (sym numbered) (passes (sym depends) (fails (sym e))))))

              pub takeable : content_right m ≡ true → {pool : List ℕ} {station : Station} → IsStation b station → length pool ≡ image_size + message_room → take image_size pool ≡ b
                  → Takeable b m (length steps) pool station
              takeable content judged pool_size pooled = record {
                size = eqb-true (length b) image_size size;
                steps_room = ltb-false (length steps) step_room (not-true _ room);
                judged = judged;
                right = true_T (message.passes m) (sym (passes_by m (sym laid) (sym numbered) (sym depends) (sym content)));
                passed = λ code r. image_passed code (passes (sym laid) (passes (sym numbered) (passes (sym depends) (passes (sym content) r))));
                pool_size = pool_size;
                pooled = pooled;
              }
