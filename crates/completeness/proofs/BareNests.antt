-- Nests without lets: where no split makes a line of its own, no loop of a split's blocks stands inside of the loop over their numbers.
use Rattle.std.proofs.Common.{◌≡◌, ℕ, zero, suc, ◌+◌, ◌<◌, ◌≤◌, true, false, ◌&&◌, not, List, [], ◌∷◌, ◌++◌, length, Some, None, refl, sym, ap, ◌∙◌, inl, inr, ◌⊎◌, arith}
use Rattle.std.specs.Prelude.{slice_get}
use Rattle.std.proofs.lemmas.Option.{slice_get_within}
use Rattle.soundness.specs.Claims.{In}
use Rattle.headline.proofs.Lists.{Parted, parted}
use Rattle.sched.specs.declared.schedule.Split.{Split}
use Rattle.sched.specs.declared.schedule.Tail.{Tail}
use Rattle.sched.specs.declared.schedule.Tail.TheVariants.{Guard, Roundup, Shift}
use Rattle.sched.specs.declared.placing.Loop.{Loop}
use Rattle.sched.specs.declared.numbers.Numbers.{Numbers}
use Rattle.sched.specs.declared.nest.Turning.{Turning}
use Rattle.sched.specs.declared.skeleton.Known.{Known}
use Rattle.sched.specs.Placing.{is_shifted}
use Rattle.sched.specs.Numbers.{numbers_named}
use Rattle.sched.specs.Standing.{has_rest}
use Rattle.completeness.specs.Blocked.{is_tailed, is_entered, makes_line}
use Rattle.completeness.proofs.Halves.{AreOthers}
use Rattle.completeness.proofs.Lanes.{AreOnce}
use Rattle.completeness.proofs.TailTurns.{Entry, let_of, keeps_rest, Woven}

-- a split that makes no line of its own is not shifted
pub bare_shift : (ls : List Loop) (rs : List Numbers) (c : Split) → makes_line ls rs c ≡ false → is_shifted c ≡ true → ⊥
bare_shift ls rs c h e = of c.tail h e
  where
    of : (t : Tail) → (elim t [ Guard ↦ has_rest c (numbers_named rs c.whole).count && not (is_entered ls c) | Roundup ↦ false | Shift ↦ true ]) ≡ false →
        (elim t [ Shift ↦ true | Guard ↦ false | Roundup ↦ false ]) ≡ true → ⊥
    of Guard r q = cc q
    of Roundup r q = cc q
    of Shift r q = cc r

pub rest_tailed : (rs : List Numbers) (c : Split) → keeps_rest rs c ≡ true → is_tailed rs c ≡ true
rest_tailed rs c e = of c.tail e
  where
    of : (t : Tail) → (elim t [ Guard ↦ has_rest c (numbers_named rs c.whole).count | Roundup ↦ false | Shift ↦ false ]) ≡ true →
        (elim t [ Guard ↦ has_rest c (numbers_named rs c.whole).count | Roundup ↦ false | Shift ↦ true ]) ≡ true
    of Guard q = q
    of Roundup q = absurd (cc q)
    of Shift q = absurd (cc q)

-- ---- entries stand in the order of their loops

module _ (cuts : List Split) (others : AreOthers cuts) (once : AreOnce cuts) (rs : List Numbers) (grid : List Known) (base : ℕ) where
  abbrev IsWoven : List Turning → List Entry → Type 0
  IsWoven = Woven cuts others once rs grid base

  abbrev Apart : List Turning → Type 0
  Apart us = (j : ℕ) (t : Turning) → slice_get us j ≡ Some t → (c : Split) → In c cuts → t.name ≡ c.whole → ⊥

  abbrev Unique : List Turning → Type 0
  Unique us = (i j : ℕ) (t u : Turning) → slice_get us i ≡ Some t → slice_get us j ≡ Some u → t.name ≡ u.name → i ≡ j

  named_let : (d : Split) (e : Entry) → e.turning ≡ let_of rs d → e.turning.name ≡ d.whole
  named_let d e is = ap (λ (t : Turning). t.name) is

  -- an entry is a loop, or a let
  entry_is : (us : List Turning) (es : List Entry) → IsWoven us es → (j : ℕ) (e : Entry) → slice_get es j ≡ Some e →
      ((p : ℕ) × (slice_get us p ≡ Some e.turning)) ⊎ ((d : Split) × In d cuts × (e.turning.name ≡ d.whole))
  entry_is [] es none j e at = absurd (no_entry (sym (ap (λ (xs : List Entry). slice_get xs j) none) ∙ at))
    where
      no_entry : None ≡ Some e → ⊥
      no_entry q = cc q
  entry_is (t ∷ us) es (own, lets, rest, is, turning, each, more) j e at = of (λ k q. entry_is us rest more k e q) j (sym (ap (λ (xs : List Entry). slice_get xs j) is) ∙ at)
    where
      of : ((k : ℕ) → slice_get rest k ≡ Some e → ((p : ℕ) × (slice_get us p ≡ Some e.turning)) ⊎ ((d : Split) × In d cuts × (e.turning.name ≡ d.whole))) →
          (j : ℕ) → slice_get (own ∷ (lets ++ rest)) j ≡ Some e → ((p : ℕ) × (slice_get (t ∷ us) p ≡ Some e.turning)) ⊎ ((d : Split) × In d cuts × (e.turning.name ≡ d.whole))
      of again zero q = (let same_entry : own ≡ e = cc q in inl (0, ap (λ (u : Turning). Some u) (sym turning) ∙ ap (λ (x : Entry). Some x.turning) same_entry))
      of again (suc i) q = by (parted lets rest i e q)
        where
          by : Parted lets rest i e → ((p : ℕ) × (slice_get (t ∷ us) p ≡ Some e.turning)) ⊎ ((d : Split) × In d cuts × (e.turning.name ≡ d.whole))
          by (inl k) = (let f = each i e k in inr (f.0, f.1, named_let f.0 e f.2))
          by (inr k) = elim (again k.0 k.2) [ inl r ↦ inl (suc r.0, r.1) | inr r ↦ inr r ]

  pub in_order : (us : List Turning) (es : List Entry) → IsWoven us es → Unique us → Apart us → (i j : ℕ) (e f : Entry) → slice_get es i ≡ Some e → slice_get es j ≡ Some f → i < j → (p q : ℕ) →
      slice_get us p ≡ Some e.turning → slice_get us q ≡ Some f.turning → p ≤ q
  in_order [] es none unique apart i j e f at_e at_f less p q at_p at_q = absurd (cc at_p)
  in_order (t ∷ us) es w unique apart i j e f at_e at_f less zero q at_p at_q = omega arith
  in_order (t ∷ us) es (own, lets, rest, is, turning, each, more) unique apart i j e f at_e at_f less (suc p) q at_p at_q =
      of (λ x y under at_x at_y q at_u. in_order us rest more unique_more apart_more x y e f at_x at_y under p q at_p at_u) i j less (sym (ap (λ (xs : List Entry). slice_get xs i) is) ∙
      at_e) (sym (ap (λ (xs : List Entry). slice_get xs j) is) ∙ at_f) q at_q
    where
      unique_more : Unique us
      unique_more a b u v at_u at_v name = (let same_place = unique (suc a) (suc b) u v at_u at_v name in omega (arith, same_place))

      apart_more : Apart us
      apart_more k u at_u c m name = apart (suc k) u at_u c m name

      first_only : (x : ℕ) (y : Entry) → slice_get (t ∷ us) (suc x) ≡ Some y.turning → t.name ≡ y.turning.name → ⊥
      first_only x y at_y name = (let same_place = unique 0 (suc x) t y.turning refl at_y name in omega (arith, same_place))

      no_let : (x : ℕ) (y : Entry) → slice_get (t ∷ us) x ≡ Some y.turning → (d : Split) → In d cuts → y.turning.name ≡ d.whole → ⊥
      no_let x y at_y d m name = apart x y.turning at_y d m name

      both : ((x y : ℕ) → x < y → slice_get rest x ≡ Some e → slice_get rest y ≡ Some f → (q : ℕ) → slice_get us q ≡ Some f.turning → p ≤ q) →
          (a b : ℕ) → (x y : ℕ) → a ≡ length lets + x → b ≡ length lets + y → a < b → slice_get rest x ≡ Some e → slice_get rest y ≡ Some f → (q : ℕ) → slice_get (t ∷ us) q ≡ Some f.turning
          → suc p ≤ q
      both again a b x y is_a is_b under at_x at_y zero at_q = by (entry_is us rest more y f at_y)
        where
          turning_is : t ≡ f.turning
          turning_is = cc at_q

          by : ((z : ℕ) × (slice_get us z ≡ Some f.turning)) ⊎ ((d : Split) × In d cuts × (f.turning.name ≡ d.whole)) → suc p ≤ zero
          by (inl z) = absurd (first_only z.0 f z.1 (ap (λ (u : Turning). u.name) turning_is))
          by (inr d) = absurd (no_let 0 f at_q d.0 d.1 d.2)
      both again a b x y is_a is_b under at_x at_y (suc q) at_q =
          (let rest_order = again x y (omega (arith, is_a, is_b, under)) at_x at_y q at_q in omega (arith, rest_order))

      of : ((x y : ℕ) → x < y → slice_get rest x ≡ Some e → slice_get rest y ≡ Some f → (q : ℕ) → slice_get us q ≡ Some f.turning → p ≤ q) →
          (i j : ℕ) → i < j → slice_get (own ∷ (lets ++ rest)) i ≡ Some e → slice_get (own ∷ (lets ++ rest)) j ≡ Some f → (q : ℕ) → slice_get (t ∷ us) q ≡ Some f.turning → suc p ≤ q
      of again zero j under at_i at_j q at_q =
          (let same_entry : own ≡ e = cc at_i in absurd (first_only p e at_p (ap (λ (u : Turning). u.name) (sym turning) ∙ ap (λ (x : Entry). x.turning.name) same_entry)))
      of again (suc a) zero under at_i at_j q at_q = absurd (omega (arith, under))
      of again (suc a) (suc b) under at_i at_j q at_q = by (parted lets rest a e at_i) (parted lets rest b f at_j)
        where
          by : Parted lets rest a e → Parted lets rest b f → suc p ≤ q
          by (inl k) s = (let d = each a e k in absurd (no_let (suc p) e at_p d.0 d.1 (named_let d.0 e d.2)))
          by (inr k) (inl m) =
              let short = slice_get_within lets b f m in
              let place = k.1 in
              absurd (omega (arith, short, place, under))
          by (inr k) (inr m) = both again a b k.0 m.0 k.1 m.1 (omega (arith, under)) k.2 m.2 q at_q
