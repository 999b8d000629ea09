-- The loops of a nest, seen from what their turns lead to: each form keeps to what is so of the loop of its name.
use Rattle.std.proofs.Common.{◌≡◌, ℕ, ◌+◌, ◌<◌, ◌≤◌, List, [], ◌∷◌, ◌++◌, Option, Some, None, refl, sym, ap, subst, inl, inr, arith}
use Rattle.std.specs.Prelude.{ℤ, ◌≤ℤ◌, ◌⊎◌, int_le}
use Rattle.std.specs.List.{AllByRecursion}
use Rattle.lin.specs.Forms.{Form, number}
use Rattle.lin.proofs.TermLemmas.{all_weaker}
use Rattle.plan.specs.Symbols.{Symbols, bind, form_value, largest, turns}
use Rattle.sched.specs.declared.schedule.Split.{Split}
use Rattle.sched.specs.declared.numbers.Numbers.{Numbers}
use Rattle.sched.specs.declared.skeleton.Step.{Step}
use Rattle.sched.specs.declared.skeleton.Step.TheVariants.{Turns}
use Rattle.sched.specs.declared.skeleton.Known.{Known}
use Rattle.sched.specs.declared.skeleton.Within.{Within}
use Rattle.sched.specs.declared.nest.Turning.{Turning}
use Rattle.sched.specs.Standing.{◌>>=◌, StandingText, form_named, alone, settle_some}
use Rattle.sched.specs.Skeleton.{span, inside, enter, leave, turn, turn_all}
use Rattle.sched.proofs.Leading.{In, Leads, turn_says}
use Rattle.sched.proofs.Told.{Keeps, keeps_on, bind_here, bind_keeps, told_alone, IsNew, new_first, new_second, new_alone, innermost_is, innermost_none}
use Rattle.sched.proofs.Standings.{Stands, stands_more, found_more, all_more}
use Rattle.sched.proofs.Passing.{IsClosed}
use Rattle.sched.proofs.Closing.{AreOrdered, closes}
use Rattle.sched.proofs.Looping.{all_last, closed_bare, no_grid}
use Rattle.sched.proofs.Rooting.{all_at}
use Rattle.sched.proofs.Visiting.{turn_rises}
use Rattle.sched.proofs.Keeping.{IsSuch, CutKeeps, Grows, Kept, kept_on, grows_on, grows_same, same_rest, no_steps, Holding, such_all, keeps_all}

-- ---- where no loop is around

pub record HoldsGround (P Q : List ℕ → ℤ → Type 0) (st : StandingText) (s : Symbols) : Type 0 where
  pub known : AllByRecursion (λ k. IsSuch st.next s (P k.name) k.form) st.known
  pub starts : AllByRecursion (λ k. IsSuch st.next s (Q k.name) k.form) st.starts
  pub bound : st.bound ≡ []
  pub some : 0 < st.next

pub kept_like : (st new : StandingText) (s : Symbols) (R S : Symbols → Type 0) → ((t : Symbols) → R t → S t) → Kept st new s R → Kept st new s S
kept_like st new s R S f h steps t e leads = let k = h steps t e leads in (k.0, f t k.1)

module _ (rs : List Numbers) (all cs : List Split) (P Q : List ℕ → ℤ → Type 0) (cuts : AllByRecursion (CutKeeps rs all P Q) cs) where
  pub ground_keeps : (v : Within) (st new : StandingText) (s : Symbols) → HoldsGround P Q st s → settle_some v rs all cs st ≡ Some new → Kept st new s (HoldsGround P Q new)
  ground_keeps v st new s h e =
      let base = record st { known = []; starts = [] } in
      let N : Form → Type 0 = λ f. Unit {0} in
      kept_like st new s (Holding P Q base 0 s (s.value 0) [] N new) (HoldsGround P Q new) (λ t k. record { known = k.known; starts = k.starts; bound = k.bound; some = k.inside })
      (keeps_all rs all P Q base 0 s (s.value 0) [] N new.limits (λ f g c k some e p q h. tt) (λ f g c k some e p q h. tt) (λ i le. tt) (λ f i rising fresh e. absurd (innermost_none f i e))
      v cs st new s cuts (closed_bare st cs) e (λ l m. m)
      (record {
        known = h.known;
        starts = h.starts;
        bound = h.bound;
        here = refl;
        same = (λ i lt. refl);
        inside = h.some;
        new_known = (λ x f k. inr tt);
        new_starts = (λ x f k. inr tt);
        more = (λ x k. absurd (cc k.1));
        more_starts = (λ x k. absurd (cc k.1));
      }))

-- ---- inside loops

pub record HoldsNest (cs : List Split) (P Q : List ℕ → ℤ → Type 0) (st : StandingText) (s : Symbols) : Type 0 where
  pub known : AllByRecursion (λ k. IsSuch st.next s (P k.name) k.form) st.known
  pub starts : AllByRecursion (λ k. IsSuch st.next s (Q k.name) k.form) st.starts
  pub bound : AllByRecursion (λ j. j < st.next) st.bound
  pub closed : AllByRecursion (IsClosed st) cs

-- what is so of each number of the loop
abbrev pub IsSaid : (List ℕ → ℤ → Type 0) → Turning → Type 0
IsSaid P t = (z : ℤ) → t.low ≤ℤ z → z ≤ℤ t.last → P t.name z

some_text : (a b : StandingText) → Some a ≡ Some b → b ≡ a
some_text a b e = cc

module _ (rs : List Numbers) (cs : List Split) (P Q : List ℕ → ℤ → Type 0) (cuts : AllByRecursion (CutKeeps rs cs P Q) cs) (order : AreOrdered cs) where
  module _ (t : Turning) (st : StandingText) (s : Symbols) (h : HoldsNest cs P Q st s) (said : IsSaid P t) where
    least : AllByRecursion (λ j. j ≤ st.next) (st.bound ++ st.next ∷ [])
    least = all_last (λ j. j ≤ st.next) st.bound st.next (all_weaker (λ j. j < st.next) (λ j. j ≤ st.next) (λ j l. omega (arith, l)) st.bound h.bound) (omega arith)

    abbrev at_turn : ℤ → Symbols
    at_turn z = bind s st.next z (int_le z (largest s (number t.low ∷ [])))

    entered : (z : ℤ) → P t.name z → Holding P Q st st.next s z (st.bound ++ st.next ∷ []) (IsNew st.next) (enter t.name st) (at_turn z)
    entered z is =
        let keeps = bind_keeps s st.next z (int_le z (largest s (number t.low ∷ []))) in
        let here = bind_here s st.next z (int_le z (largest s (number t.low ∷ []))) in
        let one : Known = record { name = t.name; form = alone st.next } in
        record {
          known = all_more (λ k. IsSuch (st.next + 1) (at_turn z) (P k.name) k.form) st.known one (such_all P st.next (st.next + 1) s (at_turn z) st.known keeps (omega arith) h.known)
              (record { number = z; told = told_alone (st.next + 1) st.next (at_turn z) z (omega arith) here; is = is });
          starts = such_all Q st.next (st.next + 1) s (at_turn z) st.starts keeps (omega arith) h.starts;
          bound = refl;
          here = here;
          same = keeps;
          inside = omega arith;
          new_known = (λ x f e. of x f (found_more st.known one x f e));
          new_starts = (λ x f e. inl (f, e));
          more = (λ x k. stands_more st.known one x k);
          more_starts = (λ x k. k);
        }
      where
        of : (x : List ℕ) (f : Form) → (form_named st.known x ≡ Some f) ⊎ ((t.name ≡ x) × (alone st.next ≡ f)) → Stands st.known x ⊎ IsNew st.next f
        of x f (inl e) = inl (f, e)
        of x f (inr e) = inr (subst (IsNew st.next) e.1 (new_alone st.next st.next (omega arith)))

    module _ (turned : StandingText) (e : settle_some (inside t.kind) rs cs cs (enter t.name st) ≡ Some turned) where
      at_number : (z : ℤ) → In z (turns s (span t.low t.last turned.limits)) → (u : Symbols) → Leads turned.steps (at_turn z) u →
          Keeps st.next s u × HoldsNest cs P Q (leave st.steps st.next t turned) u
      at_number z m u leads =
          let says = turn_says s t.low t.last z turned.limits m in
          let k =
          keeps_all rs cs P Q st st.next s z (st.bound ++ st.next ∷ []) (IsNew st.next) turned.limits
          (λ f g c k some e p q h. new_first st.next f g c k some e p q h) (λ f g c k some e p q h. new_second st.next f g c k some e p q h) (λ i le. new_alone st.next i le)
          (λ f i rising fresh e. (innermost_is st.next (st.bound ++ st.next ∷ []) f i rising fresh least e, λ l n. all_at (λ l. z ≤ℤ form_value l s) turned.limits l says.2 n))
          (inside t.kind) cs (enter t.name st) turned (at_turn z) cuts h.closed e (λ l n. n) (entered z (said z says.0 says.1)) turned.steps u refl leads in
          let p = k.1 in
          let rises = p.inside in
          let closed = closes (inside t.kind) rs cs (no_grid t.kind) cs (enter t.name st) turned e order in (
            keeps_on st.next (st.next + 1) s (at_turn z) u (bind_keeps s st.next z (int_le z (largest s (number t.low ∷ [])))) k.0 (omega arith),
            record {
              known = p.known;
              starts = p.starts;
              bound = subst (λ (l : List ℕ). AllByRecursion (λ j. j < turned.next) l) (sym p.bound)
                  (all_weaker (λ j. j ≤ st.next) (λ j. j < turned.next) (λ j l. omega (arith, l, rises)) (st.bound ++ st.next ∷ []) least);
              closed = all_weaker (IsClosed turned) (IsClosed (leave st.steps st.next t turned)) (λ c k. record { begun = k.begun; joined = k.joined }) cs closed;
            },
          )

      left : Kept st (leave st.steps st.next t turned) s (HoldsNest cs P Q (leave st.steps st.next t turned))
      left steps u same leads =
          let all : steps ≡ Turns st.next (span t.low t.last turned.limits) t.kind ∷ turned.steps = same_rest st.steps steps
          (Turns st.next (span t.low t.last turned.limits) t.kind ∷ turned.steps) (sym same) in
          let way = subst (λ (l : List Step). Leads l s u) all leads in
          at_number way.0 way.1 u way.2

    pub turn_keeps : (new : StandingText) → turn rs cs t st ≡ Some new → Kept st new s (HoldsNest cs P Q new) × Grows st new
    turn_keeps new e = of (settle_some (inside t.kind) rs cs cs (enter t.name st)) refl e
      where
        of : (o : Option StandingText) → settle_some (inside t.kind) rs cs cs (enter t.name st) ≡ o → (o >>= λ turned. Some (leave st.steps st.next t turned)) ≡ Some new →
            Kept st new s (HoldsNest cs P Q new) × Grows st new
        of None k e = absurd (cc e)
        of (Some turned) k e =
            subst (λ (a : StandingText). Kept st a s (HoldsNest cs P Q a) × Grows st a) (sym (some_text (leave st.steps st.next t turned) new e))
            (left turned k, (Turns st.next (span t.low t.last turned.limits) t.kind ∷ turned.steps, refl))

  turn_grows : (t : Turning) (st new : StandingText) → turn rs cs t st ≡ Some new → Grows st new
  turn_grows t st new e = of (settle_some (inside t.kind) rs cs cs (enter t.name st)) e
    where
      of : (o : Option StandingText) → (o >>= λ turned. Some (leave st.steps st.next t turned)) ≡ Some new → Grows st new
      of None e = absurd (cc e)
      of (Some turned) e = subst (Grows st) (sym (some_text (leave st.steps st.next t turned) new e)) (Turns st.next (span t.low t.last turned.limits) t.kind ∷ turned.steps, refl)

  pub turns_grow : (ts : List Turning) (st new : StandingText) → turn_all rs cs ts st ≡ Some new → Grows st new
  turns_grow [] st new e = grows_same st new (some_text st new e)
  turns_grow (t ∷ ts) st new e = of (turn rs cs t st) refl e (λ mid d. turns_grow ts mid new d)
    where
      of : (o : Option StandingText) → turn rs cs t st ≡ o → (o >>= turn_all rs cs ts) ≡ Some new → ((mid : StandingText) → turn_all rs cs ts mid ≡ Some new → Grows mid new) → Grows st new
      of None k e rest = absurd (cc e)
      of (Some mid) k e rest = grows_on st mid new (turn_grows t st mid k) (rest mid e)

  -- each inside the one before
  pub turns_keep : (ts : List Turning) (st new : StandingText) (s : Symbols) → HoldsNest cs P Q st s → AllByRecursion (IsSaid P) ts → turn_all rs cs ts st ≡ Some new →
      Kept st new s (HoldsNest cs P Q new)
  turns_keep [] st new s h said e = let same = some_text st new e in no_steps st new s (HoldsNest cs P Q new) (ap (λ (a : StandingText). a.steps) same)
      (subst (λ (a : StandingText). HoldsNest cs P Q a s) (sym same) h)
  turns_keep (t ∷ ts) st new s h said e = of (turn rs cs t st) refl e (λ mid u k d. turns_keep ts mid new u k said.1 d)
    where
      of : (o : Option StandingText) → turn rs cs t st ≡ o → (o >>= turn_all rs cs ts) ≡ Some new →
          ((mid : StandingText) (u : Symbols) → HoldsNest cs P Q mid u → turn_all rs cs ts mid ≡ Some new → Kept mid new u (HoldsNest cs P Q new)) → Kept st new s (HoldsNest cs P Q new)
      of None k e rest = absurd (cc e)
      of (Some mid) k e rest =
          let one = turn_keeps t st s h said.0 mid k in
          kept_on st mid new s (HoldsNest cs P Q mid) (HoldsNest cs P Q new) one.1 (turns_grow ts mid new e) (turn_rises rs cs t st mid k) one.0 (λ u n. rest mid u n e)
