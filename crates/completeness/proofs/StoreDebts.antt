-- All that a line `store` owes is owed at that line.
use Rattle.std.proofs.Common.{◌≡◌, ℕ, zero, suc, Bool, List, [], ◌∷◌, ◌++◌, map, take, drop, refl}
use Rattle.std.specs.Prelude.{filter, flat_map}
use Rattle.std.specs.List.{AllByRecursion}
use Rattle.tree.specs.Term.{Term, Number, Name, Call, Minus, Binary, Clamp, Cast, Choice, Terms, End, More, Test, Compares, Fails, Both, Either}
use Rattle.lin.specs.declared.span.Span1.{Span1}
use Rattle.plan.specs.Plan.{Store, Coordinate, Index, At, Found}
use Rattle.soundness.specs.Origins.{Outline}
use Rattle.plan.specs.Semantics.Run.{Source, Input, ByClaim, Unknown}
use Rattle.soundness.specs.Obligations.{Known, Rules, Obligation, NotClaimed, NotTheDefinition, Inside, Updating, obligation, region_of, serves}
use Rattle.soundness.specs.Obligations.{load_obligations, intervals, loads, loads_of_test, loads_of_all, index_loads, coordinate_loads, claimed, variable_span, target_span, may_load, met, obligations}
use Rattle.bounds.proofs.ListSound.{all-append}

module _ (O : Outline) (R : Rules) (line : ℕ) (known : Known) where
  abbrev AtLine : Obligation → Type 0
  AtLine o = o.line ≡ line

  abbrev AreAtLine : List Obligation → Type 0
  AreAtLine os = AllByRecursion AtLine os

  joined : (xs ys : List Obligation) → AreAtLine xs → AreAtLine ys → AreAtLine (xs ++ ys)
  joined xs ys h k = all-append AtLine xs ys h k

  module _ (may : ℕ → Bool) (meets : ℕ → List (List Span1)) (names : List (List ℕ)) where
    met_line : (xs : List Span1) (yss : List (List Span1)) → AreAtLine (map (λ ys. obligation O R NotTheDefinition line known (Inside xs ys)) yss)
    met_line xs [] = tt
    met_line xs (ys ∷ yss) = (refl, met_line xs yss)

    load_line : (s : Source) (xs : List Span1) → AreAtLine (load_obligations O R line known may meets s xs)
    load_line Input xs = (refl, tt)
    load_line (ByClaim c) xs = (refl, (refl, (refl, met_line xs (meets c))))
    load_line Unknown xs = (refl, tt)

    module _ (vars : List Span1) where
      mutual
        loads_line : (e : Term) → AreAtLine (loads O R line known may meets names vars e)
        loads_line (Number t n) = tt
        loads_line (Name name) = tt
        loads_line (Call name at) =
            joined (loads_of_all O R line known may meets names vars at) (load_obligations O R line known may meets (O.source name) (intervals O R known.binders names vars at)) (all_line at)
            (load_line (O.source name) (intervals O R known.binders names vars at))
        loads_line (Minus a) = loads_line a
        loads_line (Binary op a b) = joined (loads O R line known may meets names vars a) (loads O R line known may meets names vars b) (loads_line a) (loads_line b)
        loads_line (Clamp a l h) =
            joined (loads O R line known may meets names vars a) (loads O R line known may meets names vars l ++ loads O R line known may meets names vars h) (loads_line a)
            (joined (loads O R line known may meets names vars l) (loads O R line known may meets names vars h) (loads_line l) (loads_line h))
        loads_line (Cast t a) = loads_line a
        loads_line (Choice c a b) =
            joined (loads_of_test O R line known may meets names vars c) (loads O R line known may meets names vars a ++ loads O R line known may meets names vars b) (test_line c)
            (joined (loads O R line known may meets names vars a) (loads O R line known may meets names vars b) (loads_line a) (loads_line b))

        test_line : (c : Test) → AreAtLine (loads_of_test O R line known may meets names vars c)
        test_line (Compares by a b) = joined (loads O R line known may meets names vars a) (loads O R line known may meets names vars b) (loads_line a) (loads_line b)
        test_line (Fails c) = test_line c
        test_line (Both c d) = joined (loads_of_test O R line known may meets names vars c) (loads_of_test O R line known may meets names vars d) (test_line c) (test_line d)
        test_line (Either c d) = joined (loads_of_test O R line known may meets names vars c) (loads_of_test O R line known may meets names vars d) (test_line c) (test_line d)

        all_line : (at : Terms) → AreAtLine (loads_of_all O R line known may meets names vars at)
        all_line End = tt
        all_line (More a rest) = joined (loads O R line known may meets names vars a) (loads_of_all O R line known may meets names vars rest) (loads_line a) (all_line rest)

      index_line : (i : Index) → AreAtLine (index_loads O R line known may meets names vars i)
      index_line (At l) = tt
      index_line (Found e) = loads_line e

      coordinates_line : (cs : List Coordinate) → AreAtLine (flat_map (coordinate_loads O R line known may meets names vars) cs)
      coordinates_line [] = tt
      coordinates_line (c ∷ cs) =
          joined (coordinate_loads O R line known may meets names vars c) (flat_map (coordinate_loads O R line known may meets names vars) cs) (index_line c.index) (coordinates_line cs)

  claimed_line : (b : ℕ) (f : List ℕ) (k : ℕ) (places : List Span1) → AreAtLine (claimed O R line known b f k places)
  claimed_line b f zero places = tt
  claimed_line b f (suc k) places = each (filter (serves O R b f (suc k)) known.updating)
    where
      each : (us : List Updating) → AreAtLine (map (λ u. obligation O R NotClaimed line known (Inside places (region_of O R u.next))) us)
      each [] = tt
      each (u ∷ us) = (refl, each us)

  pub store_line : (b k : ℕ) (cs : List Coordinate) (e : Term) → AreAtLine (obligations O R (Store b k cs e) line known)
  store_line b k cs e =
      let n = O.setting.dimensions b in
      let f = O.setting.buffer_function b in
      let at = take n cs in
      let over = drop n cs in
      let names = map (λ c. c.variable) (at ++ over) in
      let left = map (variable_span O R) (at ++ over) in
      let places = map (target_span O R known names left) at in
      let may = may_load O R known b f k in
      let meets = met O R f k at in
      let vars = places ++ map (variable_span O R) over in (
        refl,
        (
          refl,
          joined (claimed O R line known b f k places) (flat_map (coordinate_loads O R line known may meets names left) at ++ loads O R line known may meets names vars e)
              (claimed_line b f k places)
              (joined (flat_map (coordinate_loads O R line known may meets names left) at) (loads O R line known may meets names vars e) (coordinates_line may meets names left at)
              (loads_line may meets names vars e)),
        ),
      )
