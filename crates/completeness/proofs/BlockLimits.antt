-- Loops of which some have a further upper form over a symbol around them, and what these keep a coordinate at.
use Rattle.std.proofs.Common.{◌≡◌, ℕ, true, List, [], ◌∷◌, ◌++◌, map}
use Rattle.std.proofs.Common.{refl, sym, ap, inl, inr}
use Rattle.std.specs.Prelude.{if◌then◌else◌}
use Rattle.std.specs.List.{AllByRecursion}
use Rattle.lin.specs.Forms.{Form}
use Rattle.soundness.specs.Claims.{In}
use Rattle.soundness.specs.Obligations.{Binder, Ranged}
use Rattle.sched.specs.Skeleton.{span}
use Rattle.completeness.proofs.LoopMoves.{Item, item_step, is_left, One, with_it, picks}

-- ---- lists

-- each loop is a pick
pub picked : (ts : List Item) (u : Item) → In u ts → (q : One) × In q (picks ts) × (q.one ≡ u)
picked [] u m = absurd m
picked (t ∷ ts) u (inl e) = (record { one = t; others = ts }, inl refl, sym e)
picked (t ∷ ts) u (inr m) = (let r = picked ts u m in (with_it t r.0, inr (mapped (picks ts) r.0 r.1), r.2))
  where
    mapped : (ps : List One) (q : One) → In q ps → In (with_it t q) (map (with_it t) ps)
    mapped [] q k = absurd k
    mapped (p ∷ ps) q (inl e) = inl (ap (with_it t) e)
    mapped (p ∷ ps) q (inr k) = inr (mapped ps q k)

-- ---- loops

-- the further upper forms of each symbol's loop, and those that it is kept at
module _ (lim tops : ℕ → List Form) where
  abbrev pub limited_by : List Form → Item → Binder
  limited_by [] t = item_step t
  limited_by (f ∷ fs) t = Ranged t.symbol (span t.low t.last (f ∷ fs))

  -- what the loops of a coordinate keep it at that are not left
  abbrev pub caps : List Item → List Item → List Form
  caps ts [] = []
  caps ts (u ∷ us) = (if is_left u.symbol ts then [] else tops u.symbol) ++ caps ts us

  pub all_left_caps : (ts us : List Item) → AllByRecursion (λ u. is_left u.symbol ts ≡ true) us → caps ts us ≡ []
  all_left_caps ts [] h = refl
  all_left_caps ts (u ∷ us) h = (let here = h.0 in let rest = all_left_caps ts us h.1 in λ j. (if here j then [] else tops u.symbol) ++ rest j)
