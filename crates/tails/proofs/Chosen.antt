-- One step of several, and what comes of an answer that is there.
use Rattle.std.proofs.Common.{◌≡◌, Bool, true, false, List, [], ◌∷◌, Option, Some, None, refl, sym, ap, ◌∙◌, subst, inl, inr}
use Rattle.std.specs.Prelude.{◌||◌, ◌&&◌, ◌⊎◌, not, if◌then◌else◌, option_and_then}
use Rattle.std.specs.List.{AllByRecursion, list_any}
use Rattle.std.specs.Option.{option_map}
use Rattle.lin.specs.Forms.{Form}
use Rattle.lin.specs.declared.span.Span1.{Span1}
use Rattle.plan.specs.Symbols.{Symbols}
use Rattle.plan.specs.Semantics.Setting.{or_else}
use Rattle.soundness.specs.Claims.{In}
use Rattle.soundness.specs.Obligations.{Binder, Ranged, Picked, Passed, Respects, span_has}
use Rattle.soundness.proofs.Turns.{in_map}
use Rattle.tails.specs.Moves.{Choice, behind, choices, first_some, only, span_from, Ready, is_free_loop, lower_factor, ready, preferred, best, is_before, is_single, State, opened, is_alone, is_free_let, after_idle, after_let}

pub and_then_parts : {A B : Type 0} (f : A → Option B) (a : Option A) (z : B) → option_and_then f a ≡ Some z → (x : A) × (a ≡ Some x) × (f x ≡ Some z)
and_then_parts f None z e = absurd (cc e)
and_then_parts f (Some x) z e = (x, refl, e)

pub map_parts : {A B : Type 0} (f : A → B) (a : Option A) (z : B) → option_map f a ≡ Some z → (x : A) × (a ≡ Some x) × (f x ≡ z)
map_parts f None z e = absurd (cc e)
map_parts f (Some x) z e = (x, refl, cc)

pub if_parts : {A : Type 0} (b : Bool) (x : Option A) (z : A) → (if b then x else None) ≡ Some z → (b ≡ true) × (x ≡ Some z)
if_parts true x z e = (refl, e)
if_parts false x z e = absurd (cc e)

pub some_same : {A : Type 0} (x y : A) → Some x ≡ Some y → x ≡ y
some_same x y e = cc

pub only_part : {A : Type 0} (xs : List A) (x : A) → only xs ≡ Some x → xs ≡ x ∷ []
only_part [] x e = absurd (cc e)
only_part (y ∷ []) x e = let same : y ≡ x = cc in ap (λ z. z ∷ []) same
only_part (y ∷ z ∷ zs) x e = absurd (cc e)

pub span_parts : (a b : Option (List Form)) (y : Span1) → span_from a b ≡ Some y → (a ≡ Some y.lower) × (b ≡ Some y.upper)
span_parts None b y e = absurd (cc e)
span_parts (Some ls) None y e = absurd (cc e)
span_parts (Some ls) (Some us) y e =
    let same : record { lower = ls; upper = us } ≡ y = some_same (record { lower = ls; upper = us }) y e in
    (ap (λ (x : Span1). Some x.lower) same, ap (λ (x : Span1). Some x.upper) same)

pub or_else_parts : {A : Type 0} (a b : Option A) (z : A) → or_else a b ≡ Some z → (a ≡ Some z) ⊎ (b ≡ Some z)
or_else_parts None b z e = inr e
or_else_parts (Some x) b z e = inl e

pub first_some_parts : {A B : Type 0} (f : A → Option B) (xs : List A) (z : B) → first_some f xs ≡ Some z → (x : A) × In x xs × (f x ≡ Some z)
first_some_parts f [] z e = absurd (cc e)
first_some_parts f (x ∷ xs) z e = of (or_else_parts (f x) (first_some f xs) z e) (λ k. first_some_parts f xs z k)
  where
    of : (f x ≡ Some z) ⊎ (first_some f xs ≡ Some z) → (first_some f xs ≡ Some z → (y : _) × In y xs × (f y ≡ Some z)) → (y : _) × In y (x ∷ xs) × (f y ≡ Some z)
    of (inl k) rest = (x, inl refl, k)
    of (inr k) rest = let r = rest k in (r.0, inr r.1, r.2)

pub all_at : {A : Type 0} (P : A → Type 0) (x : A) (xs : List A) → In x xs → AllByRecursion P xs → P x
all_at P x [] m h = absurd m
all_at P x (y ∷ ys) (inl e) h = subst P (sym e) h.0
all_at P x (y ∷ ys) (inr m) h = all_at P x ys m h.1

-- ---- a step and those beside it

pub respects_more : (b : Binder) (bs : List Binder) (t : Symbols) → Respects (b ∷ []) t → Respects bs t → Respects (b ∷ bs) t
respects_more (Ranged i x) bs t h k = (h.0, k)
respects_more (Picked i pick ls) bs t h k = (h.0, k)
respects_more (Passed low high) bs t h k = (h.0, k)

pub respects_head : (b : Binder) (bs : List Binder) (t : Symbols) → Respects (b ∷ bs) t → Respects (b ∷ []) t
respects_head (Ranged i x) bs t h = (h.0, tt)
respects_head (Picked i pick ls) bs t h = (h.0, tt)
respects_head (Passed low high) bs t h = (h.0, tt)

pub respects_tail : (b : Binder) (bs : List Binder) (t : Symbols) → Respects (b ∷ bs) t → Respects bs t
respects_tail (Ranged i x) bs t h = h.1
respects_tail (Picked i pick ls) bs t h = h.1
respects_tail (Passed low high) bs t h = h.1

pub record Split (one : Binder) (others bs : List Binder) : Type 0 where
  pub any : (f : Binder → Bool) → list_any f bs ≡ (f one || list_any f others)
  pub join : (t : Symbols) → Respects (one ∷ []) t → Respects others t → Respects bs t
  pub left : (t : Symbols) → Respects bs t → Respects (one ∷ []) t
  pub right : (t : Symbols) → Respects bs t → Respects others t

or_swap : (a b c : Bool) → (a || (b || c)) ≡ (b || (a || c))
or_swap true true c = refl
or_swap true false c = refl
or_swap false b c = refl

pub split_of : (c : Choice) (bs : List Binder) → In c (choices bs) → Split c.one c.others bs
split_of c [] m = absurd m
split_of c (b ∷ bs) (inl e) =
    subst (λ (c : Choice). Split c.one c.others (b ∷ bs)) (sym e)
    (record { any = λ f. refl; join = λ t h k. respects_more b bs t h k; left = λ t h. respects_head b bs t h; right = λ t h. respects_tail b bs t h })
split_of c (b ∷ bs) (inr m) = of (in_map (behind b) c (choices bs) m) (λ d n. split_of d bs n)
  where
    of : ((d : Choice) × In d (choices bs) × (c ≡ behind b d)) → ((d : Choice) → In d (choices bs) → Split d.one d.others bs) → Split c.one c.others (b ∷ bs)
    of (d, n, e) rest =
        let sp = rest d n in
        subst (λ (c : Choice). Split c.one c.others (b ∷ bs)) (sym e)
        (record {
          any = λ f. ap (λ v. f b || v) (sp.any f) ∙ or_swap (f b) (f d.one) (list_any f d.others);
          join = λ t h k. respects_more b bs t (respects_head b d.others t k) (sp.join t h (respects_tail b d.others t k));
          left = λ t h. sp.left t (respects_tail b bs t h);
          right = λ t h. respects_more b d.others t (respects_head b bs t h) (sp.right t (respects_tail b bs t h));
        })

-- ---- the loop that is taken next

pub record IsReady (one : Binder) (others : List Binder) (r : Ready) : Type 0 where
  pub is : one ≡ Ranged r.symbol r.span
  pub beside : others ≡ r.others
  pub free : is_free_loop r.symbol r.span r.others ≡ true

pub ready_parts : (ys : List Span1) (one : Binder) (others : List Binder) (r : Ready) → ready ys one others ≡ Some r → IsReady one others r
ready_parts ys (Ranged i x) others r e =
    let k = if_parts (is_free_loop i x others) _ r e in
    let m = map_parts (λ n. record { symbol = i; span = x; others = others; factor = n; is_single = is_single x }) (lower_factor i ys) r k.1 in
    record {
      is = ap (λ (q : Ready). Ranged q.symbol q.span) m.2;
      beside = ap (λ (q : Ready). q.others) m.2;
      free = subst (λ (q : Ready). is_free_loop q.symbol q.span q.others ≡ true) m.2 k.0;
    }
ready_parts ys (Picked i pick ls) others r e = absurd (cc e)
ready_parts ys (Passed low high) others r e = absurd (cc e)

preferred_parts : (a b : Option Ready) (r : Ready) → preferred a b ≡ Some r → (a ≡ Some r) ⊎ (b ≡ Some r)
preferred_parts None b r e = inr e
preferred_parts (Some a) None r e = inl e
preferred_parts (Some a) (Some b) r e = of (is_before b a) e
  where
    of : (v : Bool) → (if v then Some b else Some a) ≡ Some r → (Some a ≡ Some r) ⊎ (Some b ≡ Some r)
    of true k = inr k
    of false k = inl k

pub best_parts : (ys : List Span1) (cs : List Choice) (r : Ready) → best ys cs ≡ Some r → (c : Choice) × In c cs × (ready ys c.one c.others ≡ Some r)
best_parts ys [] r e = absurd (cc e)
best_parts ys (c ∷ cs) r e = of (preferred_parts (ready ys c.one c.others) (best ys cs) r e) (λ k. best_parts ys cs r k)
  where
    of : (ready ys c.one c.others ≡ Some r) ⊎ (best ys cs ≡ Some r) → (best ys cs ≡ Some r → (d : Choice) × In d cs × (ready ys d.one d.others ≡ Some r)) → (d : Choice) × In d (c ∷ cs) × (ready ys d.one d.others ≡ Some r)
    of (inl k) rest = (c, inl refl, k)
    of (inr k) rest = let q = rest k in (q.0, inr q.1, q.2)

-- ---- a let that nothing names

idle_case : (v w : Bool) (o : Option (List Span1)) (others : List Binder) (ys : List Span1) (later : State) →
    (if v && not w then Some (record { steps = others; spans = ys }) else None) ≡ Some later →
    (if v then option_map (λ zs. record { steps = others; spans = zs }) (if w then o else Some ys) else None) ≡ Some later
idle_case true true o others ys later e = absurd (cc e)
idle_case true false o others ys later e = e
idle_case false w o others ys later e = absurd (cc e)

-- it is one that may be taken
pub idle_is_let : (exact : Bool) (shows : Form → Form → Bool) (ys : List Span1) (b : Binder) (others : List Binder) (later : State) → after_idle ys b others ≡ Some later →
    after_let exact shows ys b others ≡ Some later
idle_is_let exact shows ys (Picked i pick ls) others later e =
    idle_case (is_free_let exact shows i ls others) (list_any (span_has i) ys) (if exact && not (is_alone ls) then None else opened exact shows i pick ls ys) others ys later e
idle_is_let exact shows ys (Ranged i x) others later e = absurd (cc e)
idle_is_let exact shows ys (Passed low high) others later e = absurd (cc e)
