-- Actions one after another.
use Rattle.std.proofs.Common.{◌≡◌, ℕ, ◌<◌, List, [], ◌∷◌, ◌++◌, length, length-append, map, Option, Some, None, Err, ℤ, refl, sym, ap, subst, ◌∙◌, append_assoc, arith}
use Rattle.std.proofs.lemmas.List.{append-nil}
use Rattle.tree.specs.declared.value.Value.{Value}
use Rattle.plan.specs.Semantics.Actions.{Action, Allot, Take, Put, Change, Give}
use Rattle.plan.specs.Semantics.Found.{with}
use Rattle.plan.specs.Semantics.Memory.{Memory, read, allot}
use Rattle.plan.specs.Semantics.Run.{Around, act, outcome}
use Rattle.headline.specs.Work.{numbers}
use Rattle.interpreter.specs.declared.evaluation.stop.Stop.{Stop}
use Rattle.interpreter.specs.declared.evaluation.stop.Stop.TheVariants.{Fault, Full}
use Rattle.interpreter.specs.States.{EndsIn, Overflows}
use Rattle.interpreter.specs.Steps.{Progress, step, steps}

-- first some actions, then others
pub steps-append : (around : Around) (xs ys : List Action) (x : Progress) → steps around (xs ++ ys) x ≡ with (steps around xs x) (steps around ys)
steps-append around [] ys x = refl
steps-append around (a ∷ xs) ys x = by (step around a x) (steps-append around xs ys)
  where
    by : (o : Option Progress) → ((y : Progress) → steps around (xs ++ ys) y ≡ with (steps around xs y) (steps around ys)) →
        with o (steps around (xs ++ ys)) ≡ with (with o (steps around xs)) (steps around ys)
    by None h = refl
    by (Some y) h = h y

-- the numbers of what a run comes to
abbrev pub given_of : Option Progress → Option (List ℤ)
given_of None = None
given_of (Some x) = Some x.given

abbrev after : List ℤ → Option (List ℤ) → Option (List ℤ)
after ns None = None
after ns (Some zs) = Some (ns ++ zs)

one_more : (ns : List ℤ) (v : Value) (o : Option (List Value)) → after (ns ++ v.number ∷ []) (numbers o) ≡ after ns (numbers (with o (λ vs. Some (v ∷ vs))))
one_more ns v None = refl
one_more ns v (Some vs) = ap (λ (zs : List ℤ). Some zs) (append_assoc ns (v.number ∷ []) (map (λ (w : Value). w.number) vs))

-- the numbers of some actions are those of their outcome, behind earlier ones
abbrev Agrees : Around → List Action → Memory Value → List ℤ → Type 0
Agrees around xs m ns = given_of (steps around xs (record { memory = m; given = ns })) ≡ after ns (numbers (outcome around xs m))

acted : (around : Around) (later : List Action) (ns : List ℤ) (o : Option (Memory Value)) → ((m : Memory Value) → Agrees around later m ns) →
    given_of (with (with o (λ n. Some (record { memory = n; given = ns }))) (steps around later)) ≡ after ns (numbers (with o (outcome around later)))
acted around later ns None h = refl
acted around later ns (Some m) h = h m

gave : (around : Around) (later : List Action) (m : Memory Value) (ns : List ℤ) (o : Option Value) → ((ks : List ℤ) → Agrees around later m ks) →
    given_of (with (with o (λ v. Some (record { memory = m; given = ns ++ v.number ∷ [] }))) (steps around later)) ≡ after ns (numbers (with o (λ v. with (outcome around later m) (λ vs. Some (v ∷ vs)))))
gave around later m ns None h = refl
gave around later m ns (Some v) h = h (ns ++ v.number ∷ []) ∙ one_more ns v (outcome around later m)

given_is : (around : Around) (xs : List Action) (m : Memory Value) (ns : List ℤ) → Agrees around xs m ns
given_is around [] m ns = ap (λ (zs : List ℤ). Some zs) (sym (append-nil ns))
given_is around (Allot b rooms ∷ later) m ns = given_is around later (allot m b rooms) ns
given_is around (Take b f p ∷ later) m ns = acted around later ns (act around (Take b f p) m) (λ n. given_is around later n ns)
given_is around (Put b f names p e ∷ later) m ns = acted around later ns (act around (Put b f names p e) m) (λ n. given_is around later n ns)
given_is around (Change b f k names at over e ∷ later) m ns = acted around later ns (act around (Change b f k names at over e) m) (λ n. given_is around later n ns)
given_is around (Give c p ∷ later) m ns = gave around later m ns (read m (around.claim_buffer c) p) (λ ks. given_is around later m ks)

none_before : (o : Option (List ℤ)) → after [] o ≡ o
none_before None = refl
none_before (Some zs) = refl

-- what actions give from no number on
pub given_in_all : (around : Around) (xs : List Action) (m : Memory Value) → given_of (steps around xs (record { memory = m; given = [] })) ≡ numbers (outcome around xs m)
given_in_all around xs m = given_is around xs m [] ∙ none_before (numbers (outcome around xs m))

-- ---- room for numbers

-- numbers are only added
acted_on : (around : Around) (room : ℕ) (later : List Action) (ns : List ℤ) (o : Option (Memory Value)) → ((m : Memory Value) → Overflows room (steps around later (record { memory = m; given = ns }))) →
    Overflows room (with (with o (λ n. Some (record { memory = n; given = ns }))) (steps around later))
acted_on around room later ns None h = tt
acted_on around room later ns (Some m) h = h m

gave_on : (around : Around) (room : ℕ) (later : List Action) (m : Memory Value) (ns : List ℤ) (o : Option Value) → ((k : ℤ) → Overflows room (steps around later (record { memory = m; given = ns ++ k ∷ [] }))) →
    Overflows room (with (with o (λ v. Some (record { memory = m; given = ns ++ v.number ∷ [] }))) (steps around later))
gave_on around room later m ns None h = tt
gave_on around room later m ns (Some v) h = h v.number

pub overflows_on : (around : Around) (room : ℕ) (xs : List Action) (m : Memory Value) (ns : List ℤ) → room < length ns → Overflows room (steps around xs (record { memory = m; given = ns }))
overflows_on around room [] m ns h = h
overflows_on around room (Allot b rooms ∷ later) m ns h = overflows_on around room later (allot m b rooms) ns h
overflows_on around room (Take b f p ∷ later) m ns h = acted_on around room later ns (act around (Take b f p) m) (λ n. overflows_on around room later n ns h)
overflows_on around room (Put b f names p e ∷ later) m ns h = acted_on around room later ns (act around (Put b f names p e) m) (λ n. overflows_on around room later n ns h)
overflows_on around room (Change b f k names at over e ∷ later) m ns h = acted_on around room later ns (act around (Change b f k names at over e) m) (λ n. overflows_on around room later n ns h)
overflows_on around room (Give c p ∷ later) m ns h = gave_on around room later m ns (read m (around.claim_buffer c) p) (λ k. overflows_on around room later m (ns ++ k ∷ []) (longer k))
  where
    longer : (k : ℤ) → room < length (ns ++ k ∷ [])
    longer k = omega (arith, h, length-append ns (k ∷ []))

pub overflows_after : (around : Around) (room : ℕ) (xs : List Action) (o : Option Progress) → Overflows room o → Overflows room (with o (steps around xs))
overflows_after around room xs None h = tt
overflows_after around room xs (Some x) h = overflows_on around room xs x.memory x.given h

-- the whole stops where its first part does
pub stops_in : (around : Around) (room : ℕ) (x y : Progress) (e : Stop) (o : Option Progress) (xs : List Action) (t : Option Progress) → t ≡ with o (steps around xs)
    → EndsIn room (λ (_ : Unit {0}). x) (Err e) o → EndsIn room (λ (_ : Unit {0}). y) (Err e) t
stops_in around room x y Fault o xs t is h = is ∙ ap (λ p. with p (steps around xs)) h
stops_in around room x y Full o xs t is h = subst (Overflows room) (sym is) (overflows_after around room xs o h)
