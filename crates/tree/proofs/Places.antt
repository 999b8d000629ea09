-- The first of several places.
use Rattle.std.proofs.Common.{◌≡◌, List, [], ◌∷◌, ◌++◌, true, Option, Some, None, ap}
use Rattle.std.specs.Option.{ok_or}
use Rattle.std.specs.Result.{IfOk, IfErr}
use Rattle.numeric.specs.declared.ty.Ty.{Ty}
use Rattle.std.specs.Prelude.{slice_get}
use Rattle.tree.specs.declared.token.span.Span.{Span}
use Rattle.tree.specs.declared.typing.TypeError.{TypeError}
use Rattle.tree.specs.Place.{misfit}

pub first_in_front : (xs ys : List Span) (s : Span) → slice_get xs 0 ≡ Some s → slice_get (xs ++ ys) 0 ≡ Some s
first_in_front [] ys s h = cc
first_in_front (x ∷ xs) ys s h = h

pub first_in_front_of_two : (xs ys zs : List Span) (s : Span) → slice_get xs 0 ≡ Some s → slice_get (xs ++ ys ++ zs) 0 ≡ Some s
first_in_front_of_two xs ys zs s h = first_in_front (xs ++ ys) zs s (first_in_front xs ys s h)

pub first_in_front_of_three : (ws xs ys zs : List Span) (s : Span) → slice_get ws 0 ≡ Some s → slice_get (ws ++ xs ++ ys ++ zs) 0 ≡ Some s
first_in_front_of_three ws xs ys zs s h = first_in_front_of_two (ws ++ xs) ys zs s (first_in_front ws xs s h)

-- where the node itself has no type, its place is the first
pub ok_or-fits : (o : Option Ty) (e : TypeError) (places : List Span) → places ≡ misfit true o e.span → IfOk (ok_or o e) (λ t. places ≡ [])
ok_or-fits None e places h = tt
ok_or-fits (Some t) e places h = h

pub ok_or-place : (o : Option Ty) (e : TypeError) (places : List Span) → places ≡ misfit true o e.span → IfErr (ok_or o e) (λ x. slice_get places 0 ≡ Some x.span)
ok_or-place None e places h = ap (λ l. slice_get l 0) h
ok_or-place (Some t) e places h = tt
