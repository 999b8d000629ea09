-- The loops of a stored function are what its directives make of its variables.
use Rattle.std.proofs.Common.{◌≡◌, ℕ, zero, suc, Bool, true, false, ◌||◌, List, [], ◌∷◌, map, Some, Ok, Err, refl, sym, ap, ◌∙◌, subst, arith}
use Rattle.std.specs.Prelude.{if◌then◌else◌, slice_get}
use Rattle.meaning.specs.Algorithm.{Function, Algorithm}
use Rattle.meaning.specs.Names.{is_among}
use Rattle.meaning.specs.Conditions.{AreDistinct, IsAlgorithm}
use Rattle.algo.proofs.Doubles.{among_stands}
use Rattle.sched.specs.Schedule.{DirectiveText, Schedule}
use Rattle.sched.specs.Placing.{SubjectText, PlacedText, Outcome, has_double, start, all_in}
use Rattle.sched.specs.Subjects.{subject_said, places}
use Rattle.sched.specs.Legal.{said, loops_after, loops_of, IsFollowed, IsLegal}
use Rattle.sched.proofs.Telling.{Told, text_told, broken_now}
use Rattle.sched.proofs.Scheduling.{get_map, ArePlaced, starts_placed, all_placed}
use Rattle.sched.specs.Stored.{StoredText}
use Rattle.blocks.specs.Stored.{stored_by, stored_among, flags}
use Rattle.lower.specs.Stored.{stored_functions}

-- ---- names

pub none_twice : (xs : List (List ℕ)) → AreDistinct xs → has_double xs ≡ false
none_twice [] h = refl
none_twice (x ∷ xs) h = ap (λ (b : Bool). b || has_double xs) first ∙ none_twice xs (λ i j y at there. let e : suc i ≡ suc j = h (suc i) (suc j) y at there in omega (arith, e))
  where
    first : is_among xs x ≡ false
    first = of (is_among xs x) refl
      where
        of : (b : Bool) → is_among xs x ≡ b → is_among xs x ≡ false
        of true e = let m = among_stands xs x e in let same : 0 ≡ suc m.0 = h 0 (suc m.0) x refl m.1 in absurd (omega (arith, same))
        of false e = e

-- ---- directives

module _ (a : Algorithm) (s : Schedule) where
  abbrev pub subjects : List SubjectText
  subjects = map (subject_said a s) a.functions

  started : (fs : List Function) → map start (map (subject_said a s) fs) ≡ map (loops_after []) fs
  started [] = refl
  started (f ∷ fs) = ap (λ (ps : List PlacedText). loops_after [] f ∷ ps) (started fs)

  places_are : AreDistinct (a.input ∷ map (λ f. f.name) a.functions) → IsFollowed a s → places a s ≡ Ok (loops_of a s)
  places_are distinct follows = of (places a s) refl (text_told a s distinct s [] (map start subjects) (started a.functions))
    where
      of : (o : Outcome) → places a s ≡ o → Told a s [] (said s) o → places a s ≡ Ok (loops_of a s)
      of (Ok ps) e told = e ∙ ap (λ (qs : List PlacedText). Ok qs) told.0
      of (Err x) e told = let b = broken_now a s x.0 x.1 told in absurd (follows b.place b.saying x.0 b.broken)

  all_are_placed : AreDistinct (a.input ∷ map (λ f. f.name) a.functions) → IsFollowed a s → ArePlaced subjects (loops_of a s)
  all_are_placed distinct follows = all_placed subjects s (map start subjects) (loops_of a s) (starts_placed subjects) (places_are distinct follows)

  -- ---- stored functions

  pub record IsStoredOf (stored : List Bool) (fs : List Function) (g : StoredText) : Type 0 where
    pub place : ℕ
    pub function : Function
    pub at : slice_get fs place ≡ Some function
    pub is : g ≡ stored_by a stored function.variables function.value function.changes (subject_said a s function) (loops_after (said s) function)

  module _ (stored : List Bool) (g : StoredText) where
    later : (f : Function) (fs : List Function) → IsStoredOf stored fs g → IsStoredOf stored (f ∷ fs) g
    later f fs h = record { place = suc h.place; function = h.function; at = h.at; is = h.is }

    pub found : (fs : List Function) (n : ℕ) → slice_get (stored_among a stored fs (map (subject_said a s) fs) (map (loops_after (said s)) fs)) n ≡ Some g → IsStoredOf stored fs g
    found [] n e = absurd (cc e)
    found (f ∷ fs) n e = of (subject_said a s f).is_stored n e (found fs)
      where
        here : StoredText
        here = stored_by a stored f.variables f.value f.changes (subject_said a s f) (loops_after (said s) f)

        rest : List StoredText
        rest = stored_among a stored fs (map (subject_said a s) fs) (map (loops_after (said s)) fs)

        of : (b : Bool) (n : ℕ) → slice_get (if b then here ∷ rest else rest) n ≡ Some g → ((m : ℕ) → slice_get rest m ≡ Some g → IsStoredOf stored fs g) → IsStoredOf stored (f ∷ fs) g
        of true zero q more = record { place = 0; function = f; at = refl; is = let same : here ≡ g = cc q in sym same }
        of true (suc m) q more = later f fs (more m q)
        of false m q more = later f fs (more m q)

  -- a function that is stored is one of them
  stored_there : (stored : List Bool) (fs : List Function) (k : ℕ) (f : Function) → slice_get fs k ≡ Some f → (subject_said a s f).is_stored ≡ true →
      (n : ℕ) × (slice_get (stored_among a stored fs (map (subject_said a s) fs) (map (loops_after (said s)) fs)) n
      ≡ Some (stored_by a stored f.variables f.value f.changes (subject_said a s f) (loops_after (said s) f)))
  stored_there stored [] k f at is = absurd (cc at)
  stored_there stored (g ∷ fs) zero f at is =
      let same : g ≡ f = cc at in
      (0, ap (λ (b : Bool). slice_get (if b then here ∷ rest else rest) 0) (ap (λ (u : Function). (subject_said a s u).is_stored) same ∙ is) ∙ ap (λ (u : Function). Some (of u)) same)
    where
      of : Function → StoredText
      of u = stored_by a stored u.variables u.value u.changes (subject_said a s u) (loops_after (said s) u)

      here : StoredText
      here = of g

      rest : List StoredText
      rest = stored_among a stored fs (map (subject_said a s) fs) (map (loops_after (said s)) fs)
  stored_there stored (g ∷ fs) (suc k) f at is = next (subject_said a s g).is_stored (stored_there stored fs k f at is)
    where
      of : Function → StoredText
      of u = stored_by a stored u.variables u.value u.changes (subject_said a s u) (loops_after (said s) u)

      rest : List StoredText
      rest = stored_among a stored fs (map (subject_said a s) fs) (map (loops_after (said s)) fs)

      next : (b : Bool) → (n : ℕ) × (slice_get rest n ≡ Some (of f)) → (n : ℕ) × (slice_get (if b then of g ∷ rest else rest) n ≡ Some (of f))
      next true h = (suc h.0, h.1)
      next false h = h

  pub stored_is : (k : ℕ) (f : Function) → slice_get a.functions k ≡ Some f → (subject_said a s f).is_stored ≡ true →
      (n : ℕ) × (slice_get (stored_functions a s) n ≡ Some (stored_by a (flags subjects) f.variables f.value f.changes (subject_said a s f) (loops_after (said s) f)))
  stored_is k f at is = stored_there (flags subjects) a.functions k f at is

  -- what is so of each
  pub record IsArranged (g : StoredText) : Type 0 where
    pub variables : has_double g.subject.variables ≡ false
    pub directives : List DirectiveText
    pub placed : all_in g.subject directives (start g.subject) ≡ Ok g.placed

  pub arranged : IsAlgorithm a → IsLegal a s → (n : ℕ) (g : StoredText) → slice_get (stored_functions a s) n ≡ Some g → IsArranged g
  arranged is legal n g at =
      let w = found (flags subjects) g a.functions n at in
      let f = w.function in
      let d = all_are_placed is.names legal.followed w.place (subject_said a s f) (loops_after (said s) f) (get_map (subject_said a s) a.functions w.place f w.at)
      (get_map (loops_after (said s)) a.functions w.place f w.at) in
      subst IsArranged (sym w.is) (record { variables = none_twice f.variables (is.functions w.place f w.at).names; directives = d.0; placed = d.1 })
