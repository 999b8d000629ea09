-- The forms that stand over the grid name symbols of the grid and of the lets over it, and those of a nest's coordinates besides symbols that the steps of the nest bind.
use Rattle.std.proofs.Common.{◌≡◌, ℕ, zero, suc, ◌+◌, ◌<◌, ◌≤◌, Bool, true, false, List, [], ◌∷◌, ◌++◌, length, Option, Some, None, refl, sym, ap, ◌∙◌, subst, inl, inr, ◌⊎◌, arith}
use Rattle.std.specs.Prelude.{ℤ, pos, negsuc, not, ◌==◌, if◌then◌else◌, slice_get}
use Rattle.std.specs.List.{AllByRecursion}
use Rattle.std.proofs.lemmas.List.{length-map}
use Rattle.lin.specs.Forms.{Form, number, combined, without}
use Rattle.lin.specs.declared.span.Span1.{Span1}
use Rattle.lin.proofs.TermLemmas.{all_weaker, filter-all}
use Rattle.bounds.proofs.ListSound.{all-append}
use Rattle.plan.specs.declared.stmt.Pick.TheVariants.{Min}
use Rattle.sched.specs.declared.schedule.Split.{Split}
use Rattle.sched.specs.declared.numbers.Numbers.{Numbers}
use Rattle.sched.specs.declared.numbers.Extent.{Extent}
use Rattle.sched.specs.declared.placing.Loop.{Loop}
use Rattle.sched.specs.declared.skeleton.Known.{Known}
use Rattle.sched.specs.declared.skeleton.Step.{Step}
use Rattle.sched.specs.declared.skeleton.Step.TheVariants.{Turns, Named, Tested}
use Rattle.sched.specs.declared.nest.Turning.{Turning}
use Rattle.plan.specs.declared.stmt.Kind.TheVariants.{Serial}
use Rattle.sched.specs.Numbers.{loop_numbers, numbers_named, last_number, or_one, grid_counts, parallel_loops, piece_counts}
use Rattle.sched.specs.Placing.{PlacedText}
use Rattle.sched.specs.Standing.{◌>>=◌, StandingText, form_named, alone, is_now, starts_at, name_smaller, test}
use Rattle.sched.specs.Standing.{room, begin, is_guarded, put_together, join_over, join, settle_some, cuts_by_variable}
use Rattle.sched.specs.Skeleton.{BodyText, NestText, SkeletonText, span, enter, leave, inside, turn, turn_all, kept_from, nest_turns}
use Rattle.sched.specs.Skeleton.{is_missing, variables_at, ranges_at, begun, nest_in, nest_of, nests_in, grid_forms, over_grid, skeleton_in}
use Rattle.sched.proofs.Looping.{no_grid}
use Rattle.sched.proofs.Standings.{all_more, found_all, Begins, stood, waits, plainly, shifted, begins, Puts, freely, by_loop, by_guard, by_test, Joins, stays, puts, joins}
use Rattle.blocks.proofs.Laying.{bound, same}
use Rattle.completeness.proofs.Only.{Only, AreOnly, SpanOnly, only_combined}

-- ---- what loops, lets and guards stand in

-- what a function takes
abbrev pub Taken : (A B : Type 0) → (A → B) → Type 0
Taken A B f = A

abbrev pub Within : Type 0
Within = Taken _ _ join

-- the second of two that are not the same
abbrev pub second_of : (A : Type 0) (a b : A) → (a ≡ b → ⊥) → A
second_of A a b f = b

abbrev pub at_grid : Within
at_grid = second_of _ _ _ (no_grid Serial)

-- ---- steps

-- one of the steps binds the symbol
abbrev pub Binds : List Step → ℕ → Type 0
Binds [] s = ⊥
Binds (Turns i x kind ∷ ss) s = (i ≡ s) ⊎ Binds ss s
Binds (Named i pick fs ∷ ss) s = (i ≡ s) ⊎ Binds ss s
Binds (Tested low high ∷ ss) s = Binds ss s

binds_first : (a b : List Step) (s : ℕ) → Binds a s → Binds (a ++ b) s
binds_first [] b s h = absurd h
binds_first (Turns i x kind ∷ a) b s (inl e) = inl e
binds_first (Turns i x kind ∷ a) b s (inr h) = inr (binds_first a b s h)
binds_first (Named i pick fs ∷ a) b s (inl e) = inl e
binds_first (Named i pick fs ∷ a) b s (inr h) = inr (binds_first a b s h)
binds_first (Tested low high ∷ a) b s h = binds_first a b s h

binds_second : (a b : List Step) (s : ℕ) → Binds b s → Binds (a ++ b) s
binds_second [] b s h = h
binds_second (Turns i x kind ∷ a) b s h = inr (binds_second a b s h)
binds_second (Named i pick fs ∷ a) b s h = inr (binds_second a b s h)
binds_second (Tested low high ∷ a) b s h = binds_second a b s h

-- all of them are lets
abbrev pub AreLets : List Step → Type 0
AreLets [] = Unit {0}
AreLets (Turns i x kind ∷ ss) = ⊥
AreLets (Named i pick fs ∷ ss) = AreLets ss
AreLets (Tested low high ∷ ss) = ⊥

lets_more : (a : List Step) (i : ℕ) (fs : List Form) → AreLets a → AreLets (a ++ Named i Min fs ∷ [])
lets_more [] i fs h = tt
lets_more (Turns j x kind ∷ a) i fs h = absurd h
lets_more (Named j pick gs ∷ a) i fs h = lets_more a i fs h
lets_more (Tested low high ∷ a) i fs h = absurd h

-- ---- what stands while they are made

-- symbols of which this is so, or that the steps bind
abbrev pub Here : (ℕ → Type 0) → List Step → ℕ → Type 0
Here Q steps s = Q s ⊎ Binds steps s

abbrev pub KnownOnly : (ℕ → Type 0) → List Known → Type 0
KnownOnly P ks = AllByRecursion (λ k. Only P k.form) ks

pub form_weaker : (P R : ℕ → Type 0) → ((s : ℕ) → P s → R s) → (f : Form) → Only P f → Only R f
form_weaker P R w f h = all_weaker (λ t. P t.symbol) (λ t. R t.symbol) (λ t k. w t.symbol k) f.terms h

pub known_weaker : (P R : ℕ → Type 0) → ((s : ℕ) → P s → R s) → (ks : List Known) → KnownOnly P ks → KnownOnly R ks
known_weaker P R w ks h = all_weaker (λ k. Only P k.form) (λ k. Only R k.form) (λ k g. form_weaker P R w k.form g) ks h

looked : (P : ℕ → Type 0) (ks : List Known) (x : List ℕ) (f : Form) → KnownOnly P ks → form_named ks x ≡ Some f → Only P f
looked P ks x f h e = found_all (λ y g. Only P g) ks x f h e

-- ---- what the forms of steps name

-- symbols of which this is so, and one more
abbrev pub With : (ℕ → Type 0) → ℕ → ℕ → Type 0
With P i s = P s ⊎ (i ≡ s)

-- the forms of each step name these, or symbols of steps before it; those of a loop may name symbols of steps inside it besides
abbrev pub StepsOver : (ℕ → Type 0) → List Step → Type 0
StepsOver P [] = Unit {0}
StepsOver P (Turns i x kind ∷ ss) = SpanOnly (Here (With P i) ss) x × StepsOver (With P i) ss
StepsOver P (Named i pick fs ∷ ss) = AreOnly P fs × StepsOver (With P i) ss
StepsOver P (Tested low high ∷ ss) = Only P low × Only P high × StepsOver P ss

-- the steps bind the symbols from the one to before the other, each once, in their order
abbrev pub Rises : ℕ → List Step → ℕ → Type 0
Rises n [] m = n ≡ m
Rises n (Turns i x kind ∷ ss) m = (i ≡ n) × Rises (n + 1) ss m
Rises n (Named i pick fs ∷ ss) m = (i ≡ n) × Rises (n + 1) ss m
Rises n (Tested low high ∷ ss) m = Rises n ss m

pub rises_joined : (n k m : ℕ) (a b : List Step) → Rises n a k → Rises k b m → Rises n (a ++ b) m
rises_joined n k m [] b h g = subst (λ (q : ℕ). Rises q b m) (sym h) g
rises_joined n k m (Turns i x kind ∷ a) b h g = (h.0, rises_joined (n + 1) k m a b h.1 g)
rises_joined n k m (Named i pick fs ∷ a) b h g = (h.0, rises_joined (n + 1) k m a b h.1 g)
rises_joined n k m (Tested low high ∷ a) b h g = rises_joined n k m a b h g

module _ (P R : ℕ → Type 0) (w : (s : ℕ) → P s → R s) where
  pub are_weaker : (fs : List Form) → AreOnly P fs → AreOnly R fs
  are_weaker fs h = all_weaker (Only P) (Only R) (λ f g. form_weaker P R w f g) fs h

  span_weaker : (x : Span1) → SpanOnly P x → SpanOnly R x
  span_weaker x h = (are_weaker x.lower h.0, are_weaker x.upper h.1)

  with_weaker : (i s : ℕ) → With P i s → With R i s
  with_weaker i s (inl p) = inl (w s p)
  with_weaker i s (inr e) = inr e

  here_weaker : (ss : List Step) (s : ℕ) → Here P ss s → Here R ss s
  here_weaker ss s (inl p) = inl (w s p)
  here_weaker ss s (inr b) = inr b

steps_weaker : (P R : ℕ → Type 0) → ((s : ℕ) → P s → R s) → (ss : List Step) → StepsOver P ss → StepsOver R ss
steps_weaker P R w [] h = tt
steps_weaker P R w (Turns i x kind ∷ ss) h = (
  span_weaker (Here (With P i) ss) (Here (With R i) ss) (here_weaker (With P i) (With R i) (with_weaker P R w i) ss) x h.0,
  steps_weaker (With P i) (With R i) (with_weaker P R w i) ss h.1,
)
steps_weaker P R w (Named i pick fs ∷ ss) h = (are_weaker P R w fs h.0, steps_weaker (With P i) (With R i) (with_weaker P R w i) ss h.1)
steps_weaker P R w (Tested low high ∷ ss) h = (form_weaker P R w low h.0, form_weaker P R w high h.1, steps_weaker P R w ss h.2)

module _ (P : ℕ → Type 0) where
  pub none_bound : (s : ℕ) → Here P [] s → P s
  none_bound s (inl p) = p
  none_bound s (inr b) = absurd b

  pub past_turns : (i : ℕ) (x : Span1) (kind : _) (a : List Step) (s : ℕ) → Here P (Turns i x kind ∷ a) s → Here (With P i) a s
  past_turns i x kind a s (inl p) = inl (inl p)
  past_turns i x kind a s (inr (inl e)) = inl (inr e)
  past_turns i x kind a s (inr (inr b)) = inr b

  pub past_named : (i : ℕ) (pick : _) (fs : List Form) (a : List Step) (s : ℕ) → Here P (Named i pick fs ∷ a) s → Here (With P i) a s
  past_named i pick fs a s (inl p) = inl (inl p)
  past_named i pick fs a s (inr (inl e)) = inl (inr e)
  past_named i pick fs a s (inr (inr b)) = inr b

  pub past_tested : (low high : Form) (a : List Step) (s : ℕ) → Here P (Tested low high ∷ a) s → Here P a s
  past_tested low high a s (inl p) = inl p
  past_tested low high a s (inr b) = inr b

  more_steps : (a b : List Step) (s : ℕ) → Here P a s → Here P (a ++ b) s
  more_steps a b s (inl p) = inl p
  more_steps a b s (inr h) = inr (binds_first a b s h)

steps_joined : (P : ℕ → Type 0) (a b : List Step) → StepsOver P a → StepsOver (Here P a) b → StepsOver P (a ++ b)
steps_joined P [] b h k = steps_weaker (Here P []) P (none_bound P) b k
steps_joined P (Turns i x kind ∷ a) b h k = (
  span_weaker (Here (With P i) a) (Here (With P i) (a ++ b)) (more_steps (With P i) a b) x h.0,
  steps_joined (With P i) a b h.1 (steps_weaker (Here P (Turns i x kind ∷ a)) (Here (With P i) a) (past_turns P i x kind a) b k),
)
steps_joined P (Named i pick fs ∷ a) b h k =
    (h.0, steps_joined (With P i) a b h.1 (steps_weaker (Here P (Named i pick fs ∷ a)) (Here (With P i) a) (past_named P i pick fs a) b k))
steps_joined P (Tested low high ∷ a) b h k = (h.0, h.1, steps_joined P a b h.2 (steps_weaker (Here P (Tested low high ∷ a)) (Here P a) (past_tested P low high a) b k))

pub record Sits (Q : ℕ → Type 0) (base : ℕ) (st : StandingText) : Type 0 where
  pub known : KnownOnly (Here Q st.steps) st.known
  pub starts : KnownOnly (Here Q st.steps) st.starts
  pub limits : AreOnly (Here Q st.steps) st.limits
  pub over : StepsOver Q st.steps
  pub rises : Rises base st.steps st.next

module _ (Q : ℕ → Type 0) (base : ℕ) where
  wider : (a b : List Step) (s : ℕ) → Here Q a s → Here Q (a ++ b) s
  wider a b s (inl q) = inl q
  wider a b s (inr h) = inr (binds_first a b s h)

  now : (x : List ℕ) (f : Form) (st : StandingText) → Only (Here Q st.steps) f → Sits Q base st → Sits Q base (is_now x f st)
  now x f st g h = record {
    known = all_more (λ k. Only (Here Q st.steps) k.form) st.known (record { name = x; form = f }) h.known g;
    starts = h.starts;
    limits = h.limits;
    over = h.over;
    rises = h.rises;
  }

  start : (x : List ℕ) (f : Form) (st : StandingText) → Only (Here Q st.steps) f → Sits Q base st → Sits Q base (starts_at x f st)
  start x f st g h = record {
    known = h.known;
    starts = all_more (λ k. Only (Here Q st.steps) k.form) st.starts (record { name = x; form = f }) h.starts g;
    limits = h.limits;
    over = h.over;
    rises = h.rises;
  }

  smaller : (f : Form) (z : ℤ) (st : StandingText) → Only (Here Q st.steps) f → Sits Q base st → Sits Q base (name_smaller f z st)
  smaller f z st g h =
      let b : List Step = Named st.next Min (f ∷ number z ∷ []) ∷ [] in
      record {
        known = known_weaker (Here Q st.steps) (Here Q (st.steps ++ b)) (wider st.steps b) st.known h.known;
        starts = known_weaker (Here Q st.steps) (Here Q (st.steps ++ b)) (wider st.steps b) st.starts h.starts;
        limits = are_weaker (Here Q st.steps) (Here Q (st.steps ++ b)) (wider st.steps b) st.limits h.limits;
        over = steps_joined Q st.steps b h.over ((g, (tt, tt)), tt);
        rises = rises_joined base st.next (st.next + 1) st.steps b h.rises (refl, refl);
      }

  tested : (f : Form) (z : ℤ) (st : StandingText) → Only (Here Q st.steps) f → Sits Q base st → Sits Q base (test f z st)
  tested f z st g h =
      let b : List Step = Tested f (number z) ∷ [] in
      record {
        known = known_weaker (Here Q st.steps) (Here Q (st.steps ++ b)) (wider st.steps b) st.known h.known;
        starts = known_weaker (Here Q st.steps) (Here Q (st.steps ++ b)) (wider st.steps b) st.starts h.starts;
        limits = are_weaker (Here Q st.steps) (Here Q (st.steps ++ b)) (wider st.steps b) st.limits h.limits;
        over = steps_joined Q st.steps b h.over (g, tt, tt);
        rises = rises_joined base st.next st.next st.steps b h.rises refl;
      }

  alone_here : (a : List Step) (i : ℕ) (fs : List Form) → Only (Here Q (a ++ Named i Min fs ∷ [])) (alone i)
  alone_here a i fs = (inr (binds_second a (Named i Min fs ∷ []) i (inl refl)), tt)

  begun_here : (c : Split) (r : Numbers) (st new : StandingText) → Sits Q base st → begin c r st ≡ Some new → Sits Q base new
  begun_here c r st new h e = of (begins c r st new e)
    where
      of : Begins c r st new → Sits Q base new
      of (stood s is) = subst (Sits Q base) (sym is) h
      of (waits none is) = subst (Sits Q base) (sym is) h
      of (plainly outer form none some sum first is) =
          subst (Sits Q base) (sym is)
          (start c.whole form st (only_combined (Here Q st.steps) (number r.low) (pos c.factor) outer tt (looked (Here Q st.steps) st.known c.outer outer h.known some) form sum) h)
      of (shifted outer form none some sum first is) =
          subst (Sits Q base) (sym is)
          (start c.whole (alone st.next) (name_smaller form (room r c.factor) st) (alone_here st.steps st.next (form ∷ number (room r c.factor) ∷ []))
          (smaller form (room r c.factor) st
          (only_combined (Here Q st.steps) (number r.low) (pos c.factor) outer tt (looked (Here Q st.steps) st.known c.outer outer h.known some) form sum) h))

  put_here : (guarded : Bool) (x : List ℕ) (last : ℤ) (f : Form) (st new : StandingText) → Only (Here Q st.steps) f → Sits Q base st → Puts guarded x last f st new → Sits Q base new
  put_here guarded x last f st new g h (freely free is) = subst (Sits Q base) (sym is) (now x f st g h)
  put_here guarded x last f st new g h (by_loop s limit i l is) =
      let kept : StandingText = record st { limits = st.limits ++ limit ∷ [] } in
      let without_only : Only (Here Q st.steps) (without f s) = filter-all (λ t. Here Q st.steps t.symbol) (λ t. not (t.symbol == s)) f.terms g in
      let made : Only (Here Q st.steps) limit = only_combined (Here Q st.steps) (number last) (negsuc 0) (without f s) tt without_only limit l in
      subst (Sits Q base) (sym is) (now x f kept g (record {
        known = h.known;
        starts = h.starts;
        limits = all-append (Only (Here Q st.steps)) st.limits (limit ∷ []) h.limits (made, tt);
        over = h.over;
        rises = h.rises;
      }))
  put_here guarded x last f st new g h (by_guard is) =
      let behind : StandingText = test f last st in
      let b : List Step = Tested f (number last) ∷ [] in
      let later : Only (Here Q behind.steps) f = form_weaker (Here Q st.steps) (Here Q (st.steps ++ b)) (wider st.steps b) f g in
      subst (Sits Q base) (sym is)
      (now x (alone behind.next) (name_smaller f last behind) (alone_here behind.steps behind.next (f ∷ number last ∷ [])) (smaller f last behind later (tested f last st g h)))
  put_here guarded x last f st new g h (by_test is) =
      let b : List Step = Tested f (number last) ∷ [] in
      subst (Sits Q base) (sym is) (now x f (test f last st) (form_weaker (Here Q st.steps) (Here Q (st.steps ++ b)) (wider st.steps b) f g) (tested f last st g h))

  joined_here : (w : Within) (guarded : Bool) (c : Split) (r : Numbers) (st new : StandingText) → Sits Q base st → join w guarded c r st ≡ Some new → Sits Q base new
  joined_here w guarded c r st new h e = of (joins c r st new w guarded e)
    where
      of : Joins w guarded c r st new → Sits Q base new
      of (stays is known) = subst (Sits Q base) (sym is) h
      of (puts first inner form none s k sum put) =
          put_here guarded c.whole (last_number r) form st new
          (only_combined (Here Q st.steps) first (pos 1) inner (looked (Here Q st.steps) st.starts c.whole first h.starts s) (looked (Here Q st.steps) st.known c.inner inner h.known k) form sum) h put

  pub settled_here : (w : Within) (rs : List Numbers) (all cs : List Split) (st new : StandingText) → Sits Q base st → settle_some w rs all cs st ≡ Some new → Sits Q base new
  settled_here w rs all [] st new h e = subst (Sits Q base) (same st new e) h
  settled_here w rs all (c ∷ cs) st new h e =
      let r : Numbers = numbers_named rs c.whole in
      let b = bound (begin c r st) (λ begun. join w (is_guarded rs all c) c r begun >>= settle_some w rs all cs) new e in
      let m = bound (join w (is_guarded rs all c) c r b.value) (settle_some w rs all cs) new b.comes in
      settled_here w rs all cs m.value new (joined_here w (is_guarded rs all c) c r b.value m.value (begun_here c r st b.value h b.is) m.is) m.comes

-- ---- loops

module _ (Q : ℕ → Type 0) (base : ℕ) where
  pub turned_here : (rs : List Numbers) (cs : List Split) (t : Turning) (st new : StandingText) → Sits Q base st → turn rs cs t st ≡ Some new → Sits Q base new
  turned_here rs cs t st new h e =
      let n : ℕ = st.next in
      let R : ℕ → Type 0 = λ s. Here Q st.steps s ⊎ (n ≡ s) in
      let b = bound (settle_some (inside t.kind) rs cs cs (enter t.name st)) (λ turned. Some (leave st.steps n t turned)) new e in
      let entered : Sits R (n + 1) (enter t.name st) = record {
        known = all_more (λ k. Only (Here R []) k.form) st.known (record { name = t.name; form = alone n }) (known_weaker (Here Q st.steps) (Here R []) (λ s k. inl (inl k)) st.known h.known)
            (inl (inr refl), tt);
        starts = known_weaker (Here Q st.steps) (Here R []) (λ s k. inl (inl k)) st.starts h.starts;
        limits = tt;
        over = tt;
        rises = refl;
      } in
      let s = settled_here R (n + 1) (inside t.kind) rs cs cs (enter t.name st) b.value entered b.is in
      let out : Sits Q base (leave st.steps n t b.value) = record {
        known = known_weaker (Here R b.value.steps) (Here Q (leave st.steps n t b.value).steps) (λ s k. around b.value s k) b.value.known s.known;
        starts = known_weaker (Here R b.value.steps) (Here Q (leave st.steps n t b.value).steps) (λ s k. around b.value s k) b.value.starts s.starts;
        limits = tt;
        over = steps_joined Q st.steps (Turns n (span t.low t.last b.value.limits) t.kind ∷ b.value.steps) h.over (((tt, tt), (tt, s.limits)), s.over);
        rises = rises_joined base n b.value.next st.steps (Turns n (span t.low t.last b.value.limits) t.kind ∷ b.value.steps) h.rises (refl, s.rises);
      } in
      subst (Sits Q base) (same (leave st.steps n t b.value) new b.comes) out
    where
      around : (turned : StandingText) (s : ℕ) → Here (λ s. Here Q st.steps s ⊎ (st.next ≡ s)) turned.steps s → Here Q (leave st.steps st.next t turned).steps s
      around turned s (inl (inl (inl q))) = inl q
      around turned s (inl (inl (inr k))) = inr (binds_first st.steps (Turns st.next _ t.kind ∷ turned.steps) s k)
      around turned s (inl (inr k)) = inr (binds_second st.steps (Turns st.next _ t.kind ∷ turned.steps) s (inl k))
      around turned s (inr k) = inr (binds_second st.steps (Turns st.next _ t.kind ∷ turned.steps) s (inr k))

  all_turned : (rs : List Numbers) (cs : List Split) (ts : List Turning) (st new : StandingText) → Sits Q base st → turn_all rs cs ts st ≡ Some new → Sits Q base new
  all_turned rs cs [] st new h e = subst (Sits Q base) (same st new e) h
  all_turned rs cs (t ∷ ts) st new h e =
      let b = bound (turn rs cs t st) (turn_all rs cs ts) new e in all_turned rs cs ts b.value new (turned_here rs cs t st b.value h b.is) b.comes

-- ---- nests

-- a form, if there is one, names only these
abbrev pub OnlyIf : (ℕ → Type 0) → Option Form → Type 0
OnlyIf P None = Unit {0}
OnlyIf P (Some f) = Only P f

pub named_if : (P : ℕ → Type 0) (ks : List Known) (x : List ℕ) → KnownOnly P ks → OnlyIf P (form_named ks x)
named_if P ks x h = of (form_named ks x) refl
  where
    of : (o : Option Form) → form_named ks x ≡ o → OnlyIf P o
    of None e = tt
    of (Some f) e = looked P ks x f h e

variables_only : (P : ℕ → Type 0) (b : BodyText) (d : ℕ) (xs : List (List ℕ)) (ks : List Known) → KnownOnly P ks → AllByRecursion (OnlyIf P) (variables_at b d xs ks)
variables_only P b d [] ks h = tt
variables_only P b d (x ∷ xs) ks h = (of (is_missing b d), variables_only P b (d + 1) xs ks h)
  where
    of : (m : Bool) → OnlyIf P (if m then None else form_named ks x)
    of true = tt
    of false = named_if P ks x h

ranges_only : (P : ℕ → Type 0) (ds : List Turning) (ks : List Known) → KnownOnly P ks → AllByRecursion (OnlyIf P) (ranges_at ds ks)
ranges_only P [] ks h = tt
ranges_only P (d ∷ ds) ks h = (named_if P ks d.name h, ranges_only P ds ks h)

joined_all : {A : Type 0} (P : A → Type 0) (xs ys : List A) → AllByRecursion P xs → AllByRecursion P ys → AllByRecursion P (xs ++ ys)
joined_all P [] ys a b = b
joined_all P (x ∷ xs) ys a b = (a.0, joined_all P xs ys a.1 b)

-- the coordinates and the steps of a nest
abbrev NestOnly : (ℕ → Type 0) → NestText → Type 0
NestOnly Q n = AllByRecursion (OnlyIf (Here Q n.steps)) n.at × StepsOver Q n.steps

-- the nests bind one behind another
abbrev pub NestsRise : ℕ → List NestText → Type 0
NestsRise next [] = Unit {0}
NestsRise next (n ∷ ns) = (to : ℕ) × Rises next n.steps to × NestsRise to ns

module _ (Q : ℕ → Type 0) (xs : List (List ℕ)) (p : PlacedText) (rs : List Numbers) (head : StandingText) (over : KnownOnly Q head.known) (begin_over : KnownOnly Q head.starts)
    (limits_over : AreOnly Q head.limits) where
  pub nest_sits : (b : BodyText) (next : ℕ) (new : StandingText) → nest_in xs p rs b (begun next head) ≡ Some new → Sits Q next new
  nest_sits b next new e =
      let cs : List Split = cuts_by_variable p.cuts (kept_from b 0 xs) in
      let m = bound (settle_some (inside Serial) rs cs cs (begun next head)) (turn_all rs cs (nest_turns b rs p.loops)) new e in
      let first : Sits Q next (begun next head) = record {
        known = known_weaker Q (Here Q []) (λ s k. inl k) head.known over;
        starts = known_weaker Q (Here Q []) (λ s k. inl k) head.starts begin_over;
        limits = are_weaker Q (Here Q []) (λ s k. inl k) head.limits limits_over;
        over = tt;
        rises = refl;
      } in
      let s = settled_here Q next (inside Serial) rs cs cs (begun next head) m.value first m.is in
      all_turned Q next rs cs (nest_turns b rs p.loops) m.value new s m.comes

  nest_here : (b : BodyText) (next : ℕ) (new : StandingText) → nest_in xs p rs b (begun next head) ≡ Some new → NestOnly Q (nest_of xs b new)
  nest_here b next new e =
      let out = nest_sits b next new e in (
        joined_all (OnlyIf (Here Q new.steps)) (variables_at b 0 xs new.known) (ranges_at b.ranges new.known)
            (variables_only (Here Q new.steps) b 0 xs new.known out.known) (ranges_only (Here Q new.steps) b.ranges new.known out.known),
        out.over,
      )

  nests_rise : (bs : List BodyText) (next : ℕ) (ns : List NestText) → nests_in xs p rs head bs next ≡ Some ns → NestsRise next ns
  nests_rise [] next ns e = subst (NestsRise next) (same [] ns e) tt
  nests_rise (b ∷ bs) next ns e =
      let m = bound (nest_in xs p rs b (begun next head)) (λ st. nests_in xs p rs head bs st.next >>= λ nests. Some (nest_of xs b st ∷ nests)) ns e in
      let r = bound (nests_in xs p rs head bs m.value.next) (λ nests. Some (nest_of xs b m.value ∷ nests)) ns m.comes in
      subst (NestsRise next) (same (nest_of xs b m.value ∷ r.value) ns r.comes) (m.value.next, (nest_sits b next m.value m.is).rises, nests_rise bs m.value.next r.value r.is)

  nests_here : (bs : List BodyText) (next : ℕ) (ns : List NestText) → nests_in xs p rs head bs next ≡ Some ns → (k : ℕ) (n : NestText) → slice_get ns k ≡ Some n → NestOnly Q n
  nests_here [] next ns e k n at = absurd (no (subst (λ (l : List NestText). slice_get l k ≡ Some n) (sym (same [] ns e)) at))
    where
      no : None ≡ Some n → ⊥
      no q = cc
  nests_here (b ∷ bs) next ns e k n at =
      let m = bound (nest_in xs p rs b (begun next head)) (λ st. nests_in xs p rs head bs st.next >>= λ nests. Some (nest_of xs b st ∷ nests)) ns e in
      let r = bound (nests_in xs p rs head bs m.value.next) (λ nests. Some (nest_of xs b m.value ∷ nests)) ns m.comes in
      by m.value r.value k (subst (λ (l : List NestText). slice_get l k ≡ Some n) (sym (same (nest_of xs b m.value ∷ r.value) ns r.comes)) at) (nest_here b next m.value m.is)
      (λ j i. nests_here bs m.value.next r.value r.is j n i)
    where
      by : (st : StandingText) (rest : List NestText) (j : ℕ) → slice_get (nest_of xs b st ∷ rest) j ≡ Some n → NestOnly Q (nest_of xs b st) → ((j : ℕ) → slice_get rest j ≡ Some n → NestOnly Q n) →
          NestOnly Q n
      by st rest zero i own later = subst (NestOnly Q) (same (nest_of xs b st) n i) own
      by st rest (suc j) i own later = later j i

-- ---- over the grid

grid_only : (rs : List Numbers) (n s : ℕ) (ls : List Loop) → s + length ls ≤ n → KnownOnly (λ i. i < n) (grid_forms rs s ls)
grid_only rs n s [] le = tt
grid_only rs n s (l ∷ ls) le = ((omega (arith, le), tt), grid_only rs n (s + 1) ls (omega (arith, le)))

count_least : (ns : List ℕ) → length ns ≤ length (or_one ns)
count_least [] = omega arith
count_least (n ∷ ns) = omega arith

-- over the grid alone no loop and no guard stands
joined_lets : (guarded : Bool) (c : Split) (r : Numbers) (st new : StandingText) → AreLets st.steps → join at_grid guarded c r st ≡ Some new → AreLets new.steps
joined_lets guarded c r st new h e = of (form_named st.known c.whole) e
  where
    put : (v : Bool) (form : Form) → put_together at_grid v c r form st ≡ Some new → AreLets new.steps
    put false form q = subst (λ (u : StandingText). AreLets u.steps) (same (is_now c.whole form st) new q) h
    put true form q = subst (λ (u : StandingText). AreLets u.steps) (same st new q) h

    over : (a b : Option Form) → join_over at_grid guarded c r a b st ≡ Some new → AreLets new.steps
    over (Some a) (Some b) q = (let m = bound (combined a (pos 1) b) (λ form. put_together at_grid guarded c r form st) new q in put guarded m.value m.comes)
    over (Some a) None q = subst (λ (u : StandingText). AreLets u.steps) (same st new q) h
    over None b q = subst (λ (u : StandingText). AreLets u.steps) (same st new q) h

    of : (o : Option Form) → (elim o [ Some form ↦ Some st | None ↦ join_over at_grid guarded c r (form_named st.starts c.whole) (form_named st.known c.inner) st ]) ≡ Some new → AreLets new.steps
    of (Some f) q = subst (λ (u : StandingText). AreLets u.steps) (same st new q) h
    of None q = over (form_named st.starts c.whole) (form_named st.known c.inner) q

begun_lets : (c : Split) (r : Numbers) (st new : StandingText) → AreLets st.steps → begin c r st ≡ Some new → AreLets new.steps
begun_lets c r st new h e = of (begins c r st new e)
  where
    of : Begins c r st new → AreLets new.steps
    of (stood s is) = subst (λ (u : StandingText). AreLets u.steps) (sym is) h
    of (waits none is) = subst (λ (u : StandingText). AreLets u.steps) (sym is) h
    of (plainly outer form none some sum first is) = subst (λ (u : StandingText). AreLets u.steps) (sym is) h
    of (shifted outer form none some sum first is) = subst (λ (u : StandingText). AreLets u.steps) (sym is) (lets_more st.steps st.next (form ∷ number (room r c.factor) ∷ []) h)

settled_lets : (rs : List Numbers) (all cs : List Split) (st new : StandingText) → AreLets st.steps → settle_some at_grid rs all cs st ≡ Some new → AreLets new.steps
settled_lets rs all [] st new h e = subst (λ (u : StandingText). AreLets u.steps) (same st new e) h
settled_lets rs all (c ∷ cs) st new h e =
    let r : Numbers = numbers_named rs c.whole in
    let b = bound (begin c r st) (λ begun. join at_grid (is_guarded rs all c) c r begun >>= settle_some at_grid rs all cs) new e in
    let m = bound (join at_grid (is_guarded rs all c) c r b.value) (settle_some at_grid rs all cs) new b.comes in
    settled_lets rs all cs m.value new (joined_lets (is_guarded rs all c) c r b.value m.value (begun_lets c r st b.value h b.is) m.is) m.comes

-- symbols of the grid, or of the lets over it
abbrev pub OverGrid : SkeletonText → ℕ → Type 0
OverGrid k = Here (λ s. s < length k.grid) k.head

-- over the grid stand lets alone; the forms of loops and of blocks there name symbols of the grid and of these lets, and those of a nest's coordinates others of its steps
pub record NamesOwn (k : SkeletonText) : Type 0 where
  pub lets : AreLets k.head
  pub known : AllByRecursion (λ e. Only (OverGrid k) e.form) k.known
  pub starts : AllByRecursion (λ e. Only (OverGrid k) e.form) k.starts
  pub nests : (i : ℕ) (n : NestText) → slice_get k.nests i ≡ Some n → AllByRecursion (OnlyIf (Here (OverGrid k) n.steps)) n.at
  pub next : ℕ
  pub over : StepsOver (λ s. s < length k.grid) k.head
  pub rises : Rises (length k.grid) k.head next
  pub steps_over : (i : ℕ) (n : NestText) → slice_get k.nests i ≡ Some n → StepsOver (OverGrid k) n.steps
  pub nests_rise : NestsRise next k.nests

-- what stands over the grid
pub head_sits : (xs : List (List ℕ)) (p : PlacedText) (region : List Extent) (head : StandingText) →
    settle_some at_grid (loop_numbers xs p.cuts region) (cuts_by_variable p.cuts xs) (cuts_by_variable p.cuts xs) (over_grid (loop_numbers xs p.cuts region) p) ≡ Some head →
    Sits (λ s. s < length (piece_counts (loop_numbers xs p.cuts region) p.loops)) (length (piece_counts (loop_numbers xs p.cuts region) p.loops)) head
head_sits xs p region head e =
    let rs : List Numbers = loop_numbers xs p.cuts region in
    let cs : List Split = cuts_by_variable p.cuts xs in
    let grid : List ℕ = piece_counts rs p.loops in
    let many : length (parallel_loops p.loops) ≤ length grid =
    (let n = length-map (parallel_loops p.loops) (λ (l : Loop). (numbers_named rs l.name).count) in let le = count_least (grid_counts rs (parallel_loops p.loops)) in omega (arith, n, le)) in
    let Q : ℕ → Type 0 = λ s. s < length grid in
    let first : Sits Q (length grid) (over_grid rs p) = record {
      known = known_weaker Q (Here Q []) (λ s k. inl k) (grid_forms rs 0 (parallel_loops p.loops)) (grid_only rs (length grid) 0 (parallel_loops p.loops) (omega (arith, many)));
      starts = tt;
      limits = tt;
      over = tt;
      rises = refl;
    } in
    settled_here Q (length grid) at_grid rs cs cs (over_grid rs p) head first e

pub names_own : (xs : List (List ℕ)) (bs : List BodyText) (p : PlacedText) (region : List Extent) (k : SkeletonText) → skeleton_in xs bs p region ≡ Some k → NamesOwn k
names_own xs bs p region k e =
    let rs : List Numbers = loop_numbers xs p.cuts region in
    let cs : List Split = cuts_by_variable p.cuts xs in
    let grid : List ℕ = piece_counts rs p.loops in
    let b = bound (settle_some at_grid rs cs cs (over_grid rs p))
    (λ head. nests_in xs p rs head bs head.next >>= λ nests. Some (record { grid = grid; head = head.steps; nests = nests; known = head.known; starts = head.starts })) k e in
    let m = bound (nests_in xs p rs b.value bs b.value.next) (λ nests. Some (record { grid = grid; head = b.value.steps; nests = nests; known = b.value.known; starts = b.value.starts })) k b.comes in
    let Q : ℕ → Type 0 = λ s. s < length grid in
    let s = head_sits xs p region b.value b.is in
    let made : NamesOwn (record { grid = grid; head = b.value.steps; nests = m.value; known = b.value.known; starts = b.value.starts }) = record {
      lets = settled_lets rs cs cs (over_grid rs p) b.value tt b.is;
      known = s.known;
      starts = s.starts;
      nests = λ i n at. (nests_here (Here Q b.value.steps) xs p rs b.value s.known s.starts s.limits bs b.value.next m.value m.is i n at).0;
      next = b.value.next;
      over = s.over;
      rises = s.rises;
      steps_over = λ i n at. (nests_here (Here Q b.value.steps) xs p rs b.value s.known s.starts s.limits bs b.value.next m.value m.is i n at).1;
      nests_rise = nests_rise (Here Q b.value.steps) xs p rs b.value s.known s.starts s.limits bs b.value.next m.value m.is;
    } in
    subst NamesOwn (same (record { grid = grid; head = b.value.steps; nests = m.value; known = b.value.known; starts = b.value.starts }) k m.comes) made

-- ---- the nest of each definition

pub record HasShape (xs : List (List ℕ)) (bs : List BodyText) (d : ℕ) (n : NestText) : Type 0 where
  pub body : BodyText
  pub standing : StandingText
  pub at : slice_get bs d ≡ Some body
  pub is : n ≡ nest_of xs body standing

nests_shape : (xs : List (List ℕ)) (p : PlacedText) (rs : List Numbers) (head : StandingText) (bs : List BodyText) (next : ℕ) (ns : List NestText) → nests_in xs p rs head bs next ≡ Some ns →
    (d : ℕ) (n : NestText) → slice_get ns d ≡ Some n → HasShape xs bs d n
nests_shape xs p rs head [] next ns e d n at = absurd (no (subst (λ (l : List NestText). slice_get l d ≡ Some n) (sym (same [] ns e)) at))
  where
    no : None ≡ Some n → ⊥
    no q = cc
nests_shape xs p rs head (b ∷ bs) next ns e d n at =
    let m = bound (nest_in xs p rs b (begun next head)) (λ st. nests_in xs p rs head bs st.next >>= λ nests. Some (nest_of xs b st ∷ nests)) ns e in
    let r = bound (nests_in xs p rs head bs m.value.next) (λ nests. Some (nest_of xs b m.value ∷ nests)) ns m.comes in
    by m.value r.value d (subst (λ (l : List NestText). slice_get l d ≡ Some n) (sym (same (nest_of xs b m.value ∷ r.value) ns r.comes)) at)
    (λ j i. nests_shape xs p rs head bs m.value.next r.value r.is j n i)
  where
    by : (st : StandingText) (rest : List NestText) (j : ℕ) → slice_get (nest_of xs b st ∷ rest) j ≡ Some n → ((j : ℕ) → slice_get rest j ≡ Some n → HasShape xs bs j n) → HasShape xs (b ∷ bs) j n
    by st rest zero i later = record { body = b; standing = st; at = refl; is = sym (same (nest_of xs b st) n i) }
    by st rest (suc j) i later = let w = later j i in record { body = w.body; standing = w.standing; at = w.at; is = w.is }

pub nest_shape : (xs : List (List ℕ)) (bs : List BodyText) (p : PlacedText) (region : List Extent) (k : SkeletonText) → skeleton_in xs bs p region ≡ Some k → (d : ℕ) (n : NestText) →
    slice_get k.nests d ≡ Some n → HasShape xs bs d n
nest_shape xs bs p region k e d n at =
    let rs : List Numbers = loop_numbers xs p.cuts region in
    let cs : List Split = cuts_by_variable p.cuts xs in
    let grid : List ℕ = piece_counts rs p.loops in
    let b = bound (settle_some at_grid rs cs cs (over_grid rs p))
    (λ head. nests_in xs p rs head bs head.next >>= λ nests. Some (record { grid = grid; head = head.steps; nests = nests; known = head.known; starts = head.starts })) k e in
    let m = bound (nests_in xs p rs b.value bs b.value.next) (λ nests. Some (record { grid = grid; head = b.value.steps; nests = nests; known = b.value.known; starts = b.value.starts })) k b.comes in
    let made : SkeletonText = record { grid = grid; head = b.value.steps; nests = m.value; known = b.value.known; starts = b.value.starts } in
    nests_shape xs p rs b.value bs b.value.next m.value m.is d n (ap (λ (s : SkeletonText). slice_get s.nests d) (same made k m.comes) ∙ at)

-- as many nests as definitions
nests_many : (xs : List (List ℕ)) (p : PlacedText) (rs : List Numbers) (head : StandingText) (bs : List BodyText) (next : ℕ) (ns : List NestText) → nests_in xs p rs head bs next ≡ Some ns →
    length ns ≡ length bs
nests_many xs p rs head [] next ns e = sym (ap length (same [] ns e))
nests_many xs p rs head (b ∷ bs) next ns e =
    let m = bound (nest_in xs p rs b (begun next head)) (λ st. nests_in xs p rs head bs st.next >>= λ nests. Some (nest_of xs b st ∷ nests)) ns e in
    let r = bound (nests_in xs p rs head bs m.value.next) (λ nests. Some (nest_of xs b m.value ∷ nests)) ns m.comes in
    sym (ap length (same (nest_of xs b m.value ∷ r.value) ns r.comes)) ∙ ap suc (nests_many xs p rs head bs m.value.next r.value r.is)

pub nests_long : (xs : List (List ℕ)) (bs : List BodyText) (p : PlacedText) (region : List Extent) (k : SkeletonText) → skeleton_in xs bs p region ≡ Some k → length k.nests ≡ length bs
nests_long xs bs p region k e =
    let rs : List Numbers = loop_numbers xs p.cuts region in
    let cs : List Split = cuts_by_variable p.cuts xs in
    let grid : List ℕ = piece_counts rs p.loops in
    let b = bound (settle_some at_grid rs cs cs (over_grid rs p))
    (λ head. nests_in xs p rs head bs head.next >>= λ nests. Some (record { grid = grid; head = head.steps; nests = nests; known = head.known; starts = head.starts })) k e in
    let m = bound (nests_in xs p rs b.value bs b.value.next) (λ nests. Some (record { grid = grid; head = b.value.steps; nests = nests; known = b.value.known; starts = b.value.starts })) k b.comes in
    let made : SkeletonText = record { grid = grid; head = b.value.steps; nests = m.value; known = b.value.known; starts = b.value.starts } in
    sym (ap (λ (s : SkeletonText). length s.nests) (same made k m.comes)) ∙ nests_many xs p rs b.value bs b.value.next m.value m.is
