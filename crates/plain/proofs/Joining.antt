-- What parts of a raster come to when they are put together.
use Rattle.std.proofs.Common.{◌≡◌, ◌<◌, ℕ, List, [], ◌∷◌, ◌++◌, refl, sym, ap, ◌∙◌, subst}
use Rattle.std.specs.List.{AllZip, flat_map}
use Rattle.rayon.specs.Lists.{Folds, Reduces}
use Rattle.rayon.proofs.ListFacts.{AllZip-weaken, flat_map-append}
use Rattle.rayon.proofs.Reducing.{Folds-elim, Reduces-elim}
use Rattle.std.specs.Result.{IsErrAnd}
use Rattle.std.specs.Prelude.{Ok, Err}
use Rattle.rayon.proofs.ListFacts.{Any-append_right}
use Rattle.plain.specs.declared.error.PlainError.{PlainError}
use Rattle.plain.specs.Picture.{Gives, Part}

-- a list's results cut in two, and the list where they are
record Cut {X Y : Type 0} (R : X → Y → Type 0) (ps : List X) (us vs : List Y) : Type 0 where
  front : List X
  back : List X
  whole : ps ≡ front ++ back
  left : AllZip R front us
  right : AllZip R back vs

cut : {X Y : Type 0} (R : X → Y → Type 0) (ps : List X) (us vs : List Y) → AllZip R ps (us ++ vs) → Cut R ps us vs
cut R ps [] vs h = record { front = []; back = ps; whole = refl; left = tt; right = h }
cut R [] (u ∷ us) vs h = absurd h
cut R (p ∷ ps) (u ∷ us) vs h =
    let rest = cut R ps us vs h.1 in
    record { front = p ∷ rest.front; back = rest.back; whole = ap (λ l. p ∷ l) rest.whole; left = (h.0, rest.left); right = rest.right }

module _ (M : List ℕ → Part → Type 0) (none : (r : Part) → Type 0) (joins : Part → Part → Part → Type 0)
    (start : (r : Part) → none r → M [] r)
    (join : (xs ys : List ℕ) (a b r : Part) → M xs a → M ys b → joins a b r → M (xs ++ ys) r) where
  abbrev Whole : List Part → Part → Type 0
  Whole us r = (ps : List (List ℕ)) → AllZip M ps us → M (flat_map (λ l. l) ps) r

  empty : (r : Part) → none r → Whole [] r
  empty r h [] z = start r h
  empty r h (p ∷ ps) z = absurd z

  beside : (us vs : List Part) (a b r : Part) → Whole us a → Whole vs b → joins a b r → Whole (us ++ vs) r
  beside us vs a b r h k j ps z =
      let c = cut M ps us vs z in
      subst (λ l. M l r) (sym (ap (flat_map (λ l. l)) c.whole ∙ flat_map-append c.front c.back))
      (join (flat_map (λ l. l) c.front) (flat_map (λ l. l) c.back) a b r (h c.front c.left) (k c.back c.right) j)

  one : (a : Part) → Whole (a ∷ []) a
  one a [] z = absurd z
  one a (p ∷ []) z = subst (λ l. M l a) (sym (append_none p)) z.0
    where
      append_none : (xs : List ℕ) → xs ++ [] ≡ xs
      append_none [] = refl
      append_none (x ∷ xs) = ap (λ l. x ∷ l) (append_none xs)
  one a (p ∷ q ∷ ps) z = absurd z.1

  more : (us : List Part) (a u r : Part) → Whole us a → joins a u r → Whole (us ++ u ∷ []) r
  more us a u r h j = beside us (u ∷ []) a u r h (one u) j

  -- parts that are put together come to the whole
  pub whole_of : (us : List Part) (r : Part) (ps : List (List ℕ)) → Reduces none joins us r → AllZip M ps us → M (flat_map (λ l. l) ps) r
  whole_of us r ps h z = Reduces-elim none joins Whole empty more beside us r h ps z

module _ (M : List ℕ → Part → Type 0) (none : (r : Part) → Type 0) (adds : Part → ℕ → Part → Type 0)
    (start : (r : Part) → none r → M [] r)
    (add : (xs : List ℕ) (a : Part) (x : ℕ) (r : Part) → M xs a → adds a x r → M (xs ++ x ∷ []) r) where
  -- and each part, place by place, to its places
  pub parts_of : (ps : List (List ℕ)) (us : List Part) → AllZip (λ p u. (e : Part) × none e × Folds adds e p u) ps us → AllZip M ps us
  parts_of = AllZip-weaken (λ p u. (e : Part) × none e × Folds adds e p u) M (λ p u h. Folds-elim adds M add p h.0 u (start h.0 h.1) h.2)

-- a back part's error is that of both
pub back_fails : (f g : ℕ → ℕ) (budget : ℕ) (xs ys : List ℕ) (r back : Part) (e : PlainError) → IsErrAnd r (λ x. x ≡ e) → back ≡ Err e → Gives f g budget ys back → Gives f g budget (xs ++ ys) r
back_fails f g budget xs ys (Ok v) back e h is k = absurd h
back_fails f g budget xs ys (Err x) back e h is k = λ m. Any-append_right (λ n. budget < g n) xs ys (subst (Gives f g budget ys) is k (sym h ∙ m))
