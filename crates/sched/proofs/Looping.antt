-- The loops of a nest: a turn of each at which its number is what its name stands for, and the forms come to what theirs do.
use Rattle.std.proofs.Common.{◌≡◌, ℕ, ◌+◌, ◌<◌, ◌≤◌, List, [], ◌∷◌, ◌++◌, map, Option, Some, None, refl, sym, subst, inl, inr, arith}
use Rattle.std.specs.Prelude.{ℤ, ◌≤ℤ◌, ◌⊎◌, int_le}
use Rattle.std.specs.List.{AllByRecursion}
use Rattle.std.proofs.lemmas.Int.{ints}
use Rattle.lin.specs.Forms.{Form, number}
use Rattle.lin.proofs.TermLemmas.{all_weaker}
use Rattle.plan.specs.declared.stmt.Kind.{Kind}
use Rattle.plan.specs.declared.stmt.Kind.TheVariants.{Serial, Unroll, Vector}
use Rattle.plan.specs.Symbols.{Symbols, bind, form_value, largest}
use Rattle.sched.specs.declared.schedule.Split.{Split}
use Rattle.sched.specs.declared.numbers.Numbers.{Numbers}
use Rattle.sched.specs.declared.skeleton.Step.{Step}
use Rattle.sched.specs.declared.skeleton.Step.TheVariants.{Turns}
use Rattle.sched.specs.declared.skeleton.Known.{Known}
use Rattle.sched.specs.declared.skeleton.Within.{Within}
use Rattle.sched.specs.declared.skeleton.Within.TheVariants as within
use Rattle.sched.specs.declared.nest.Turning.{Turning}
use Rattle.sched.specs.Standing.{◌>>=◌, StandingText, form_named, alone, settle_some}
use Rattle.sched.specs.Skeleton.{span, inside, enter, leave, turn, turn_all}
use Rattle.sched.proofs.Leading.{Leads, is_turn}
use Rattle.sched.proofs.Told.{Keeps, keeps_on, bind_here, bind_keeps, kept_value, IsTold, told_on, told_alone, IsNew, new_first, new_second, new_alone, innermost_is, innermost_none, IsLimit}
use Rattle.sched.proofs.Standings.{Stands, stands_more, stands_last, found_more, all_more}
use Rattle.sched.proofs.Passing.{IsCut, IsClosed, Agrees, Moved, moved_on, stay, Passing, passes}
use Rattle.sched.proofs.Closing.{AreOrdered, closes, settle_more}

pub moved_like : (st new : StandingText) (s : Symbols) (P Q : Symbols → Type 0) → ((t : Symbols) → P t → Q t) → Moved st new s P → Moved st new s Q
moved_like st new s P Q f h = record { end = h.end; steps = h.steps; are = h.are; leads = h.leads; keeps = h.keeps; more = h.more; there = f h.end h.there }

pub all_last : {A : Type 0} (P : A → Type 0) (xs : List A) (x : A) → AllByRecursion P xs → P x → AllByRecursion P (xs ++ x ∷ [])
all_last P [] x a h = (h, tt)
all_last P (y ∷ ys) x a h = (a.0, all_last P ys x a.1 h)

-- ---- where no loop is around

-- no loop of the nest is around, and the forms come to what their names stand for
pub record OnGround (w b : List ℕ → ℤ) (st : StandingText) (s : Symbols) : Type 0 where
  pub agrees : Agrees w b s st
  pub bound : st.bound ≡ []
  pub some : 0 < st.next
  pub limits : AllByRecursion (IsLimit 0 (s.value 0) s) st.limits

pub closed_bare : (st : StandingText) (ds : List Split) → AllByRecursion (IsClosed (record st { known = []; starts = [] })) ds
closed_bare st [] = tt
closed_bare st (d ∷ ds) = (record { begun = (λ h. absurd (cc h.1)); joined = (λ h k. absurd (cc h.1)) }, closed_bare st ds)

module _ (rs : List Numbers) (all cs : List Split) (w b : List ℕ → ℤ) (cuts : AllByRecursion (IsCut rs w b) cs) where
  ground_left : (st new : StandingText) (z : ℤ) (t : Symbols) → Passing w b (record st { known = []; starts = [] }) 0 z [] (λ f. Unit {0}) new t → OnGround w b new t
  ground_left st new z t h = record { agrees = h.agrees; bound = h.bound; some = h.inside; limits = subst (λ y. AllByRecursion (IsLimit 0 y t) new.limits) (sym h.here) h.limits }

  pub ground_moves : (v : Within) (st new : StandingText) (s : Symbols) → OnGround w b st s → settle_some v rs all cs st ≡ Some new → Moved st new s (OnGround w b new)
  ground_moves v st new s h e =
      let base = record st { known = []; starts = [] } in
      let N : Form → Type 0 = λ f. Unit {0} in
      moved_like st new s (Passing w b base 0 (s.value 0) [] N new) (OnGround w b new) (λ t k. ground_left st new (s.value 0) t k)
      (passes rs w b base 0 (s.value 0) [] N (λ f g c k some e p q h. tt) (λ f g c k some e p q h. tt) (λ i le. tt) (λ f i rising fresh e. absurd (innermost_none f i e))
      v all cs st new s cuts (closed_bare st cs) e
      (record {
        agrees = h.agrees;
        bound = h.bound;
        here = refl;
        inside = h.some;
        limits = h.limits;
        known = (λ x f k. inr tt);
        starts = (λ x f k. inr tt);
        more = (λ x k. absurd (cc k.1));
        more_starts = (λ x k. absurd (cc k.1));
      }))

-- ---- inside loops

-- the forms come to what their names stand for, loops have outer symbols, and whatever stands by what is there stands
pub record InNest (cs : List Split) (w b : List ℕ → ℤ) (st : StandingText) (s : Symbols) : Type 0 where
  pub agrees : Agrees w b s st
  pub bound : AllByRecursion (λ j. j < st.next) st.bound
  pub closed : AllByRecursion (IsClosed st) cs

-- and what stood before stands, and so do these names
pub record Turned (cs : List Split) (w b : List ℕ → ℤ) (base : StandingText) (names : List (List ℕ)) (st : StandingText) (s : Symbols) : Type 0 where
  pub nest : InNest cs w b st s
  pub more : (x : List ℕ) → Stands base.known x → Stands st.known x
  pub named : AllByRecursion (λ x. Stands st.known x) names

-- the loop runs over what its name stands for
abbrev pub IsRun : (List ℕ → ℤ) → Turning → Type 0
IsRun w t = (t.low ≤ℤ w t.name) × (w t.name ≤ℤ t.last)

pub no_grid : (k : Kind) → inside k ≡ within.Grid → ⊥
no_grid Serial e = cc e
no_grid Unroll e = cc e
no_grid Vector e = cc e

some_text : (a b : StandingText) → Some a ≡ Some b → b ≡ a
some_text a b e = cc

module _ (rs : List Numbers) (cs : List Split) (w b : List ℕ → ℤ) (cuts : AllByRecursion (IsCut rs w b) cs) (order : AreOrdered cs) where
  module _ (t : Turning) (st : StandingText) (s : Symbols) (h : InNest cs w b st s) (run : IsRun w t) where
    abbrev n : ℕ
    n = st.next

    abbrev z : ℤ
    z = w t.name

    abbrev within_loop : Symbols
    within_loop = bind s st.next (w t.name) (int_le (w t.name) (largest s (number t.low ∷ [])))

    entered : Passing w b st st.next (w t.name) (st.bound ++ st.next ∷ []) (IsNew st.next) (enter t.name st) within_loop
    entered =
        let keeps = bind_keeps s st.next (w t.name) (int_le (w t.name) (largest s (number t.low ∷ []))) in
        let here = bind_here s st.next (w t.name) (int_le (w t.name) (largest s (number t.low ∷ []))) in
        let one : Known = record { name = t.name; form = alone st.next } in
        record {
          agrees = record {
            known = all_more (λ k. IsTold (st.next + 1) within_loop (w k.name) k.form) st.known one
                (all_weaker (λ k. IsTold st.next s (w k.name) k.form) (λ k. IsTold (st.next + 1) within_loop (w k.name) k.form)
                (λ k g. told_on st.next (st.next + 1) s within_loop (w k.name) k.form g keeps (omega arith)) st.known h.agrees.known)
                (told_alone (st.next + 1) st.next within_loop (w t.name) (omega arith) here);
            starts = all_weaker (λ k. IsTold st.next s (b k.name) k.form) (λ k. IsTold (st.next + 1) within_loop (b k.name) k.form)
                (λ k g. told_on st.next (st.next + 1) s within_loop (b k.name) k.form g keeps (omega arith)) st.starts h.agrees.starts;
          };
          bound = refl;
          here = here;
          inside = omega arith;
          limits = tt;
          known = (λ x f e. of x f (found_more st.known one x f e));
          starts = (λ x f e. inl (f, e));
          more = (λ x k. stands_more st.known one x k);
          more_starts = (λ x k. k);
        }
      where
        of : (x : List ℕ) (f : Form) → (form_named st.known x ≡ Some f) ⊎ ((t.name ≡ x) × (alone st.next ≡ f)) → Stands st.known x ⊎ IsNew st.next f
        of x f (inl e) = inl (f, e)
        of x f (inr e) = inr (subst (IsNew st.next) e.1 (new_alone st.next st.next (omega arith)))

    least : AllByRecursion (λ j. j ≤ st.next) (st.bound ++ st.next ∷ [])
    least = all_last (λ j. j ≤ st.next) st.bound st.next (all_weaker (λ j. j < st.next) (λ j. j ≤ st.next) (λ j l. omega (arith, l)) st.bound h.bound) (omega arith)

    module _ (turned : StandingText) (e : settle_some (inside t.kind) rs cs cs (enter t.name st) ≡ Some turned) where
      moves : Moved (enter t.name st) turned within_loop (Passing w b st st.next (w t.name) (st.bound ++ st.next ∷ []) (IsNew st.next) turned)
      moves =
          passes rs w b st st.next (w t.name) (st.bound ++ st.next ∷ []) (IsNew st.next)
          (λ f g c k some e p q h. new_first st.next f g c k some e p q h) (λ f g c k some e p q h. new_second st.next f g c k some e p q h) (λ i le. new_alone st.next i le)
          (λ f i rising fresh e. innermost_is st.next (st.bound ++ st.next ∷ []) f i rising fresh least e)
          (inside t.kind) cs cs (enter t.name st) turned within_loop cuts h.closed e entered

      -- a turn of the loop, with the limits that were found inside it
      limited : (u : Symbols) → Keeps st.next s u → (ls : List Form) → AllByRecursion (IsLimit st.next (w t.name) u) ls → AllByRecursion (λ l. w t.name ≤ℤ form_value l s) ls
      limited u k [] a = tt
      limited u k (l ∷ ls) a = (let same = kept_value l st.next s u k a.0.outer in let most = a.0.most in omega (arith, ints, same, most), limited u k ls a.1)

      left : Moved st (leave st.steps st.next t turned) s (Turned cs w b st (t.name ∷ []) (leave st.steps st.next t turned))
      left =
          let m = moves in
          let flag = int_le (w t.name) (largest s (number t.low ∷ [])) in
          let keeps : Keeps st.next s m.end = keeps_on st.next (st.next + 1) s within_loop m.end (bind_keeps s st.next (w t.name) flag) m.keeps (omega arith) in
          let rises = m.more in
          let p = m.there in
          let closed = closes (inside t.kind) rs cs (no_grid t.kind) cs (enter t.name st) turned e order in
          record {
            end = m.end;
            steps = Turns st.next (span t.low t.last turned.limits) t.kind ∷ turned.steps;
            are = refl;
            leads = (
              w t.name,
              is_turn s t.low t.last (w t.name) turned.limits run.0 run.1 (limited m.end keeps turned.limits p.limits),
              subst (λ (l : List Step). Leads l within_loop m.end)
                  (sym m.are) m.leads,
            );
            keeps = keeps;
            more = omega (arith, rises);
            there = record {
              nest = record {
                agrees = record { known = p.agrees.known; starts = p.agrees.starts };
                bound = subst (λ (l : List ℕ). AllByRecursion (λ j. j < turned.next) l) (sym p.bound)
                    (all_weaker (λ j. j ≤ st.next) (λ j. j < turned.next) (λ j l. omega (arith, l, rises)) (st.bound ++ st.next ∷ []) least);
                closed = all_weaker (IsClosed turned) (IsClosed (leave st.steps st.next t turned)) (λ c k. record { begun = k.begun; joined = k.joined }) cs closed;
              };
              more = p.more;
              named = (settle_more (inside t.kind) rs cs cs (enter t.name st) turned e t.name (stands_last st.known (record { name = t.name; form = alone st.next })), tt);
            };
          }

    pub turn_moves : (new : StandingText) → turn rs cs t st ≡ Some new → Moved st new s (Turned cs w b st (t.name ∷ []) new)
    turn_moves new e = of (settle_some (inside t.kind) rs cs cs (enter t.name st)) refl e
      where
        of : (o : Option StandingText) → settle_some (inside t.kind) rs cs cs (enter t.name st) ≡ o → (o >>= λ turned. Some (leave st.steps st.next t turned)) ≡ Some new →
            Moved st new s (Turned cs w b st (t.name ∷ []) new)
        of None k e = absurd (cc e)
        of (Some turned) k e = subst (λ (a : StandingText). Moved st a s (Turned cs w b st (t.name ∷ []) a)) (sym (some_text (leave st.steps st.next t turned) new e)) (left turned k)

  -- each inside the one before
  pub turns_move : (ts : List Turning) (st new : StandingText) (s : Symbols) → InNest cs w b st s → AllByRecursion (IsRun w) ts → turn_all rs cs ts st ≡ Some new →
      Moved st new s (Turned cs w b st (map (λ t. t.name) ts) new)
  turns_move [] st new s h runs e =
      subst (λ (a : StandingText). Moved st a s (Turned cs w b st [] a)) (sym (some_text st new e))
      (stay st st s (Turned cs w b st [] st) refl (omega arith) (record { nest = h; more = (λ x k. k); named = tt }))
  turns_move (t ∷ ts) st new s h runs e = of (turn rs cs t st) refl e (λ mid u k d. turns_move ts mid new u k runs.1 d)
    where
      of : (o : Option StandingText) → turn rs cs t st ≡ o → (o >>= turn_all rs cs ts) ≡ Some new →
          ((mid : StandingText) (u : Symbols) → InNest cs w b mid u → turn_all rs cs ts mid ≡ Some new → Moved mid new u (Turned cs w b mid (map (λ t. t.name) ts) new)) →
          Moved st new s (Turned cs w b st (map (λ t. t.name) (t ∷ ts)) new)
      of None k e rest = absurd (cc e)
      of (Some mid) k e rest =
          moved_on st mid new s (Turned cs w b st (t.name ∷ []) mid) (Turned cs w b st (map (λ t. t.name) (t ∷ ts)) new) (turn_moves t st s h runs.0 mid k)
          (λ u m. moved_like mid new u (Turned cs w b mid (map (λ t. t.name) ts) new) (Turned cs w b st (map (λ t. t.name) (t ∷ ts)) new)
          (λ v n. record { nest = n.nest; more = (λ x a. n.more x (m.more x a)); named = (n.more t.name m.named.0, n.named) }) (rest mid u m.nest e))
