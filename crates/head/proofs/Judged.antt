-- Whether a walk was whole is decided by its test: a law from the test to the record and one back.
use mathlib.Core.Path.{◌≡◌}
use mathlib.Core.Bool.{true}
use borrow.Author.Tests.{eqb-true, eq-eqb}
use Rattle.laws.proofs.Tests.{every_each, each_every}
use Rattle.rows.specs.declared.looking.Seen.{Seen}
use Rattle.rows.proofs.Orderly.{allowed_says, says_allowed}
use Rattle.head.specs.declared.Head.{Head}
use Rattle.head.specs.Judged.{Whole, whole}
use Rattle.head.proofs.Rest.{rest_says, says_rest}

module _ (h : Head) (s : Seen) where
  pub whole_says : whole h s ≡ true → Whole h s
  unfolding whole
  whole_says e =
      let t = every_each _ e in
      record {
        total_is = eqb-true _ _ t.0;
        sum_is = eqb-true _ _ t.1.0;
        rest = rest_says h t.1.1.0;
        terms_allowed = allowed_says h.terms t.1.1.1.0;
      }

  pub says_whole : Whole h s → whole h s ≡ true
  unfolding whole
  says_whole w =
      each_every _ (eq-eqb _ _ w.total_is, (eq-eqb _ _ w.sum_is, (says_rest h w.rest, (says_allowed h.terms w.terms_allowed, tt))))
