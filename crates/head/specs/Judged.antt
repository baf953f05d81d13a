-- What a walk over the rows and the head tell together, and what the functions of the head ask for. Nothing here is promised to a user.
use Rattle.std.specs.Prelude.{◌≡◌, Bool, true, cond, [], ◌∷◌, ◌*◌, ◌≤◌, ◌<◌, eqb, Option, Some, None, option_map, is_some, unwrap_or}
use Rattle.laws.specs.Lists.{every}
use Rattle.rows.specs.declared.Request.{Request}
use Rattle.rows.specs.declared.Row.{Row}
use Rattle.rows.specs.declared.looking.First.{First}
use Rattle.rows.specs.declared.looking.Seen.{Seen}
use Rattle.rows.specs.Numbers.{max_total, max_length, ceiling}
use Rattle.rows.specs.Row.{blank, moment_in}
use Rattle.rows.specs.Orderly.{OrderlyRow, Allowed, allowed}
use Rattle.rows.specs.Fits.{Exchanging}
use Rattle.head.specs.declared.Head.{Head}
use Rattle.head.specs.declared.surveying.Survey.{Survey}
use Rattle.head.specs.Rest.{OrderlyRest, orderly_rest}
use Rattle.head.specs.Slice.{orderly_slice}

-- of a walk that met no fault: the sums are the stored ones, the resting position is in order, and the terms are allowed
pub record Whole (h : Head) (s : Seen) : Type 0 where
  pub total_is : s.weights ≡ h.total
  pub sum_is : s.moments ≡ h.sum
  pub rest : OrderlyRest h
  pub terms_allowed : Allowed h.terms

unfoldable pub whole : Head → Seen → Bool
whole h s =
    every (eqb s.weights h.total ∷ eqb s.moments h.sum ∷ orderly_rest h ∷ allowed h.terms ∷ [])

abbrev pub told_by : Seen → Survey
told_by s = record { chosen = option_map (λ (first : First). first.queue) s.first; nearest = s.nearest }

unfoldable pub survey_of : Head → Seen → Row → Option Survey
survey_of h s r = cond (every (whole h s ∷ orderly_slice h h.out r ∷ [])) (Some (told_by s)) None

-- the walk met no row that is not orderly, so neither is the holder's
pub record Surveying (h : Head) (s : Seen) (r : Row) : Type 0 where
  pub orderly : whole h s ≡ true → OrderlyRow r
  pub total_high : whole h s ≡ true → h.total ≤ max_total

-- the row that decides on an event, of a sound table; of another there is none, and its place is taken by a blank one that nobody looks at
abbrev pub row_in : Option Row → Row
row_in row = unwrap_or row blank

pub record Judging (h : Head) (row : Option Row) : Type 0 where
  pub orderly : OrderlyRow (row_in row)
  pub total_high : is_some row ≡ true → h.total ≤ max_total

-- one row for another, whose shares fit
pub record Replacing (h : Head) (old new : Row) : Type 0 where
  pub old_orderly : OrderlyRow old
  pub new_orderly : OrderlyRow new
  pub weights : Exchanging h.total old.weight new.weight
  pub moments : Exchanging h.sum (moment_in old) (moment_in new)

-- a request whose numbers are in range, so that its products fit
pub record Servable (q : Request) : Type 0 where
  pub opening_high : q.opening ≤ ceiling
  pub length_high : q.length ≤ max_length
  pub served_less : q.served < q.length

-- the head of a table whose sums are true, which are small
pub record Small (h : Head) : Type 0 where
  pub total_high : h.total ≤ max_total
  pub sum_high : h.sum ≤ ceiling * max_total
