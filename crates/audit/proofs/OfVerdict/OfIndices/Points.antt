-- Where each piece that fetches points of i32 coordinates alone owns no others, all cells have such points.
use Rattle.std.proofs.Common.{◌≡◌, ℕ, zero, suc, ◌<◌, Bool, true, false, List, [], ◌∷◌, map, Option, Some, None, refl, sym, ap, ◌∙◌, subst, inl, inr, arith}
use Rattle.std.specs.Prelude.{ℤ, slice_get, filter, if◌then◌else◌}
use Rattle.std.specs.List.{AllByRecursion}
use Rattle.std.proofs.lemmas.Option.{slice_get_within}
use Rattle.lin.specs.declared.span.Span1.{Span1}
use Rattle.meaning.specs.Algorithm.{Algorithm}
use Rattle.meaning.specs.Functions.{IsPoint}
use Rattle.plan.specs.Plan.{Group, Plan}
use Rattle.plan.specs.Symbols.{Symbols, points}
use Rattle.plan.specs.Certificate.Certificate.{Certificate}
use Rattle.plan.specs.Certificate.Cells.{Cell, cell, cells, group_pieces, is_in_region, no_symbols, own_points, own_region, points_within}
use Rattle.soundness.specs.Claims.{In}
use Rattle.orders.specs.Work.{Work}
use Rattle.headline.specs.Fetched.{fetched_cells}
use Rattle.headline.specs.Numbers.{cell_number, has_point, is_cell, CellsAreNumbered, GroupsHaveEnds}
use Rattle.headline.specs.Parts.{CellsAreApart, PartsAreTheWork, number_of_piece, symbols_of_piece}
use Rattle.headline.specs.Theorem.{HasSoundCells}
use Rattle.headline.specs.Work.{work_of}
use Rattle.headline.proofs.Members.{contains_of, in_of}

-- ---- members

of_map : {A B : Type 0} (f : A → B) (xs : List A) (y : B) → In y (map f xs) → (x : A) × In x xs × (y ≡ f x)
of_map f [] y m = absurd m
of_map f (x ∷ xs) y (inl e) = (x, inl refl, e)
of_map f (x ∷ xs) y (inr m) = let r = of_map f xs y m in (r.0, inr r.1, r.2)

to_map : {A B : Type 0} (f : A → B) (xs : List A) (x : A) → In x xs → In (f x) (map f xs)
to_map f [] x m = absurd m
to_map f (y ∷ ys) x (inl e) = inl (ap f e)
to_map f (y ∷ ys) x (inr m) = inr (to_map f ys x m)

each : {A : Type 0} (P : A → Type 0) (xs : List A) (x : A) → AllByRecursion P xs → In x xs → P x
each P [] x h m = absurd m
each P (y ∷ ys) x h (inl e) = subst P (sym e) h.0
each P (y ∷ ys) x h (inr m) = each P ys x h.1 m

all_of : {A : Type 0} (P : A → Type 0) (xs : List A) → ((x : A) → In x xs → P x) → AllByRecursion P xs
all_of P [] h = tt
all_of P (x ∷ xs) h = (h x (inl refl), all_of P xs (λ y m. h y (inr m)))

passes : {A : Type 0} (test : A → Bool) (xs : List A) (x : A) → In x (filter test xs) → test x ≡ true
passes test [] x m = absurd m
passes test (y ∷ ys) x m = of (test y) refl m (passes test ys x)
  where
    of : (v : Bool) → test y ≡ v → In x (if v then y ∷ filter test ys else filter test ys) → (In x (filter test ys) → test x ≡ true) → test x ≡ true
    of true e (inl same) rest = ap test same ∙ e
    of true e (inr k) rest = rest k
    of false e k rest = rest k

-- ---- own cells

own_inside : (g : Group) (o : Option (List Span1)) (s : Symbols) (q : List ℤ) → In q (points_within g o s) → is_in_region no_symbols g.region q ≡ true
own_inside g None s q m = absurd m
own_inside g (Some xs) s q m = passes (is_in_region no_symbols g.region) (points s xs) q m

module _ (a : Algorithm) (p : Plan) (c : Certificate) (parts : PartsAreTheWork) (apart : CellsAreApart) (ends : GroupsHaveEnds p) (lists : HasSoundCells (work_of a p c []))
    (fetched : (n : ℕ) (g : Group) (k : ℕ) → slice_get p.groups n ≡ Some g → k < group_pieces g → AllByRecursion (λ y. is_cell p y ≡ true) (fetched_cells g.body (symbols_of_piece p n g k)))
    (step : (n : ℕ) (g : Group) (k : ℕ) → slice_get p.groups n ≡ Some g → k < group_pieces g → AllByRecursion (λ (y : Cell). IsPoint y.point) (fetched_cells g.body (symbols_of_piece p n g k)) →
    AllByRecursion IsPoint (own_points g c n (symbols_of_piece p n g k))) where
  abbrev work : Work
  work = work_of a p c []

  -- a cell among a piece's own, where its fetched cells are points
  own_is : (n : ℕ) (g : Group) (k : ℕ) (y : Cell) → slice_get p.groups n ≡ Some g → k < group_pieces g → is_cell p y ≡ true → In (cell_number p y) (work.own (number_of_piece p n g k)) →
      AllByRecursion (λ (z : Cell). IsPoint z.point) (fetched_cells g.body (symbols_of_piece p n g k)) → IsPoint y.point
  own_is n g k y stands less is m all =
      let s = symbols_of_piece p n g k in
      let part = parts.part a p c [] n g k stands less in
      let own = own_points g c n s in
      let one = of_map (cell_number p) (map (cell n) own) (cell_number p y) (subst (In (cell_number p y)) part.own m) in
      let two = of_map (cell n) own one.0 one.1 in
      let inside : is_cell p (cell n two.0) ≡ true = ap (λ (o : Option Group). has_point o two.0) stands ∙ own_inside g (own_region c.own n) s two.0 two.1 in
      let same : y ≡ cell n two.0 = apart.by_number p y (cell n two.0) ends is inside (one.2 ∙ ap (cell_number p) two.2) in
      subst (λ (z : Cell). IsPoint z.point) (sym same) (each IsPoint own two.0 (step n g k stands less all) two.1)

  -- of the pieces before this number, in their order
  owned : (m j : ℕ) → j < m → j < work.pieces → (y : Cell) → is_cell p y ≡ true → In (cell_number p y) (work.own j) → IsPoint y.point
  owned zero j less inside y is there = absurd (omega (arith, less))
  owned (suc m) j less inside y is there =
      let o = parts.each a p c [] j inside in
      let s = symbols_of_piece p o.n o.g o.k in
      let part = parts.part a p c [] o.n o.g o.k o.group o.inside in
      let looked = fetched_cells o.g.body s in
      let number : (z : Cell) → In z looked → In (cell_number p z) (work.fetched j) =
      λ z l. subst (λ i. In (cell_number p z) (work.fetched i)) (sym o.number) (subst (In (cell_number p z)) (sym part.fetched) (to_map (cell_number p) looked z l)) in
      own_is o.n o.g o.k y o.group o.inside is (subst (λ i. In (cell_number p y) (work.own i)) o.number there)
      (all_of (λ (z : Cell). IsPoint z.point) looked (λ z l.
      let serves = lists.needed j (cell_number p z) inside (contains_of (work.fetched j) (cell_number p z) (number z l)) in
      let before = lists.earlier j serves.0 inside serves.1 in
      owned m serves.0 (omega (arith, less, before)) (omega (arith, inside, before)) z
      (each (λ y. is_cell p y ≡ true) looked z (fetched o.n o.g o.k o.group o.inside) l) (in_of (work.own serves.0) (cell_number p z) serves.2)))

  pub cell_is : CellsAreNumbered → (y : Cell) → is_cell p y ≡ true → IsPoint y.point
  cell_is numbered y is =
      let o = lists.whole (cell_number p y) (slice_get_within (cells p) (cell_number p y) y (numbered.stands p y ends is)) in
      owned (suc o.0) o.0 (omega arith) o.1 y is (in_of (work.own o.0) (cell_number p y) o.2)
