-- What the walk's end tells. A sound table passes whole, and a table that passed whole with its slice in order is sound; then the best row of all is the
-- choice.
use mathlib.Core.Path.{◌≡◌, refl, ap, sym, subst, ◌∙◌}
use mathlib.Core.Bool.{Bool, true, false, cond}
use mathlib.Core.List.{List, [], ◌∷◌}
use mathlib.Core.Logic.{⊎_elim}
use mathlib.Core.Option as Math
use Prim.Native.Nat.{ℕ, ◌≤◌, ◌<◌}
use native.Mathlib.Omega.{arith}
use lib.ListN.{length, drop, drop_of_length-le}
use Rattle.std.specs.Prelude.{Option, Some, None, option_map}
use Rattle.std.proofs.lemmas.Option.{none-some, same_Some}
use Rattle.laws.specs.Lists.{every, sum_of}
use Rattle.laws.proofs.Tests.{clash, refuted, both_ways, every_each, each_every, le_or_lt}
use Rattle.rows.proofs.Virtual.{reached_yes, yes_reached}
use Rattle.rows.specs.declared.Row.{Row}
use Rattle.rows.specs.declared.looking.First.{First}
use Rattle.rows.specs.declared.looking.Seen.{Seen}
use Rattle.rows.specs.Numbers.{queues, max_total}
use Rattle.rows.specs.Row.{is_going, weight_in, moment_in}
use Rattle.rows.specs.Orderly.{OrderlyRow}
use Rattle.head.specs.Judged.{Whole, whole, told_by, survey_of, Surveying}
use Rattle.head.specs.Slice.{OrderlySlice, orderly_slice}
use Rattle.head.proofs.Judged.{whole_says, says_whole}
use Rattle.head.proofs.Slice.{orderly_slice_lem, slice_orderly}
use Rattle.share.specs.declared.Table.{Table}
use Rattle.share.specs.Table.{row, true_total, true_sum}
use Rattle.share.specs.Sound.{held, Sound, sound}
use Rattle.share.specs.Choice.{choice, choose_from}
use Rattle.share.specs.Events.{chosen_or0, chosen}
use Rattle.share.specs.Walks.{Fine, first_queue, SoFar, Walked, Told, Surveyed}
use Rattle.share.proofs.Mean.{some_eligible}
use Rattle.share.proofs.Release.{ready_inside}
use Rattle.share.proofs.Sound.{row_past, every_row, sound_says, says_sound}
use Rattle.share.proofs.Totals.{total_most}

-- a sound table's rows are fine
sound_fine : (t : Table) → Sound t → (j : ℕ) → Fine t (row t j)
sound_fine t h j =
    record {
      orderly = h.orderly_table.each j;
      ahead = λ going. refuted _ (λ e. h.no_one_ready j (record { going = going; level = reached_yes _ _ _ e }));
    }

module _ (t : Table) (s : Seen) (one_each : length t.rows ≡ queues) (far : SoFar t 64 s) where
  -- nothing is left
  done : drop 64 t.rows ≡ []
  done = drop_of_length-le t.rows {i = 64} (omega arith)

  total_walked : s.weights ≡ true_total t.rows
  total_walked = omega (arith, far.passed.weights_left, ap (sum_of weight_in) done)

  sum_walked : s.moments ≡ true_sum t.rows
  sum_walked = omega (arith, far.passed.moments_left, ap (sum_of moment_in) done)

  -- a sound table passes whole
  sound_whole : Sound t → Whole t.head s
  sound_whole is =
      let o = is.orderly_table in
      record { total_is = total_walked ∙ sym o.total_true; sum_is = sum_walked ∙ sym o.sum_true; rest = o.rest; terms_allowed = o.terms_allowed }

  each_orderly : (i : ℕ) → OrderlyRow (row t i)
  each_orderly = every_row t OrderlyRow (refl, refl) (λ i l. (far.passed.fine_below i (omega arith)).orderly)

  -- a table that passed whole, with its slice in order, is sound
  whole_sound : Whole t.head s → OrderlySlice t.head t.head.out (held t) → Sound t
  whole_sound w slice =
      record {
        orderly_table =
            record {
              one_each = one_each;
              terms_allowed = w.terms_allowed;
              each = each_orderly;
              total_true = sym w.total_is ∙ total_walked;
              sum_true = sym w.sum_is ∙ sum_walked;
              rest = w.rest;
              slice = slice;
            };
        no_one_ready = λ i ready. clash (yes_reached _ _ _ ready.level) ((far.passed.fine_below i (omega (arith, ready_inside t i ready))).ahead ready.going);
      }

  -- the first of all is the choice
  first_chosen : first_queue s.first ≡ choice t
  first_chosen = ap (λ (rs : List Row). choose_from t 64 rs (first_queue s.first)) (sym done) ∙ far.passed.rest

  -- and there is one where the table is not empty
  chosen_is : (first : Option First) → first_queue first ≡ choice t → Sound t → 0 < t.head.total → option_map (λ (f : First). f.queue) first ≡ Some (chosen t)
  unfolding chosen
  chosen_is None e is present = absurd (some_eligible t is present (sym e))
  chosen_is (Some f) e is present = ap (λ (o : Math.Option ℕ). Some (chosen_or0 o)) e

  going_past : (i : ℕ) → is_going (row t i).state ≡ true → i < 64
  going_past i going =
      ⊎_elim (λ past. absurd (clash going (ap (λ (r : Row). is_going r.state) (row_past t i (omega arith))))) (λ l. l) (le_or_lt 64 i)

  pub may_survey : t.head.total ≤ max_total → Surveying t.head s (held t)
  may_survey light = record { orderly = λ e. each_orderly t.head.holder; total_high = λ e. light }

  told : Sound t → Told t (told_by s)
  told is =
      record {
        chosen_told = chosen_is s.first first_chosen is;
        nearest_told = λ i going. far.passed.nearest_below i (going_past i going) going;
        nearest_high = far.nearest_most;
      }

  abbrev passes : Bool
  passes = every (whole t.head s ∷ orderly_slice t.head t.head.out (held t) ∷ [])

  same_sound : passes ≡ sound t
  same_sound =
      both_ways _ (sound t)
      (λ e. let h = every_each _ e in says_sound t (whole_sound (whole_says t.head s h.0) (orderly_slice_lem t.head t.head.out (held t) h.1.0)))
      (λ e. let is = sound_says t e in
      each_every _ (says_whole t.head s (sound_whole is), (slice_orderly t.head t.head.out (held t) is.orderly_table.slice, tt)))

  by : (b : Bool) → b ≡ sound t → Surveyed t (cond b (Some (told_by s)) None)
  by true e =
      record { sound_told = e; told = λ v is. subst (Told t) (same_Some _ _ is) (told (sound_says t (sym e))) }
  by false e = record { sound_told = e; told = λ v is. absurd (none-some _ is) }

  -- what the head makes of the walk is so
  pub survey_tells : Surveyed t (survey_of t.head s (held t))
  unfolding survey_of
  survey_tells = by passes same_sound

-- no walk was over: the table is not sound
pub none_tells : (t : Table) → Walked t None → Surveyed t None
none_tells t walked =
    record {
      sound_told = sym (refuted _ (λ e. let is = sound_says t e in walked.stopped refl (total_most t is.orderly_table) (sound_fine t is)));
      told = λ v is. absurd (none-some _ is);
    }
