use Rattle.std.proofs.Common.{sym, ap, ◌∙◌, subst}
use Rattle.meaning.specs.Points.{IsIn, IsBefore, StandsAt}
use Rattle.meaning.specs.Reduction.{point, points, rank}
use Rattle.meaning.proofs.Points.{rank_of_point, rank_below, point_of_rank, point_within, point_rises, points_number, points_stand, stands_within}
use Rattle.meaning.proofs.laws.points_are_the_domain.Goals as goal

pub returns-clause-counted : goal.returns-clause-counted
returns-clause-counted c = record {
  stands = points_stand;
  number = points_number;
  point_of_rank = point_of_rank;
  rank_below = rank_below;
  rank_of_point = rank_of_point;
}

pub returns-clause-domain : goal.returns-clause-domain
returns-clause-domain c = record {
  within = λ ds n p r h. subst (IsIn ds) (stands_within ds n p h).1 (point_within ds n r);
  found = λ ds p h. subst (StandsAt (points ds) (rank ds p)) (point_of_rank ds p h) (points_stand ds (rank ds p) (rank_below ds p h));
  once = λ ds m n p h k.
      let a = stands_within ds m p h in
      let b = stands_within ds n p k in
      sym (rank_of_point ds m a.0) ∙ ap (rank ds) (a.1 ∙ sym b.1) ∙ rank_of_point ds n b.0;
  rises = λ ds m n p q h k l.
      let a = stands_within ds m p h in
      let b = stands_within ds n q k in
      subst (λ x. IsBefore x q) a.1 (subst (IsBefore (point ds m)) b.1 (point_rises ds m n l b.0));
}
