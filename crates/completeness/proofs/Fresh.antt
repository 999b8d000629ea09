-- Where the symbols of statements rise, no loop and no let of them binds one that is in scope.
use Rattle.std.proofs.Common.{◌≡◌, ℕ, ◌+◌, ◌-◌, ◌<◌, ◌≤◌, Bool, true, false, ◌&&◌, ◌||◌, not, List, [], ◌∷◌, ◌++◌, map, refl, ap, arith}
use Rattle.std.specs.Prelude.{◌==◌, filter, flat_map}
use Rattle.std.specs.List.{AllByRecursion, list_any}
use Rattle.std.proofs.lemmas.Bool.Decides.{nat_tests}
use Rattle.lin.specs.Forms.{Form}
use Rattle.lin.specs.declared.span.Span1.{Span1}
use Rattle.lin.proofs.TermLemmas.{all_weaker, filter-all}
use Rattle.bounds.proofs.ListSound.{all-append}
use Rattle.plan.specs.declared.stmt.Places.{Places}
use Rattle.plan.specs.declared.stmt.Places.TheVariants.{From, Folded}
use Rattle.plan.specs.Plan.{Statement, Seq, For, Let, First, Guard, Alloc, Fetch, Store, Publish, Statements, Empty, Then}
use Rattle.plan.specs.Lines.{lines, block_lines}
use Rattle.soundness.specs.Origins.{Outline}
use Rattle.soundness.specs.Claims.{updates}
use Rattle.soundness.specs.Obligations.{Binder, Ranged, Picked, Passed, Buffer, Updating, Known, Rules, from_each, form_has, span_has, binder_has, places_have, has_symbol, region_of}
use Rattle.soundness.specs.Obligations.{is_left, follows, nests_of, within, in_block, in_guard, in_loop, onwards}
use Rattle.soundness.specs.Shown.{Nests, all_shown}
use Rattle.completeness.specs.Laws.{IsStep}
use Rattle.completeness.specs.Owed.{EachOwn, OwnOf, own_obligations}
use Rattle.completeness.proofs.Only.{Only, AreOnly, SpanOnly}
use Rattle.completeness.proofs.Standing.{form_weaker, are_weaker}
use Rattle.completeness.proofs.Sited.{PlaceOnly}

abbrev pub Less : ℕ → ℕ → Type 0
Less n s = s < n

-- ---- lists

none_any : {A : Type 0} (P : A → Type 0) (f : A → Bool) → ((x : A) → P x → f x ≡ false) → (xs : List A) → AllByRecursion P xs → list_any f xs ≡ false
none_any P f clash [] h = refl
none_any P f clash (x ∷ xs) h = (let here = clash x h.0 in let rest = none_any P f clash xs h.1 in λ i. here i || rest i)

all_mapped : {A B : Type 0} (P : A → Type 0) (Q : B → Type 0) (f : A → B) → ((x : A) → P x → Q (f x)) → (xs : List A) → AllByRecursion P xs → AllByRecursion Q (map f xs)
all_mapped P Q f w [] h = tt
all_mapped P Q f w (x ∷ xs) h = (w x h.0, all_mapped P Q f w xs h.1)

pub all_flat : {A B : Type 0} (P : A → Type 0) (Q : B → Type 0) (f : A → List B) → ((x : A) → P x → AllByRecursion Q (f x)) → (xs : List A) → AllByRecursion P xs →
    AllByRecursion Q (flat_map f xs)
all_flat P Q f w [] h = tt
all_flat P Q f w (x ∷ xs) h = all-append Q (f x) (flat_map f xs) (w x h.0) (all_flat P Q f w xs h.1)

-- ---- a symbol that is behind others stands in nothing that names these alone

differs : (a n i : ℕ) → a < n → n ≤ i → (a == i) ≡ false
differs a n i less le = grind (arith, nat_tests)

module _ (n i : ℕ) (le : n ≤ i) where
  form_lacks : (f : Form) → Only (Less n) f → form_has i f ≡ false
  form_lacks f h = none_any (λ t. t.symbol < n) (λ t. t.symbol == i) (λ t less. differs t.symbol n i less le) f.terms h

  forms_lack : (fs : List Form) → AreOnly (Less n) fs → list_any (form_has i) fs ≡ false
  forms_lack fs h = none_any (Only (Less n)) (form_has i) form_lacks fs h

  span_lacks : (x : Span1) → SpanOnly (Less n) x → span_has i x ≡ false
  span_lacks x h = (let low = forms_lack x.lower h.0 in let high = forms_lack x.upper h.1 in λ j. low j || high j)

  spans_lack : (xs : List Span1) → AllByRecursion (SpanOnly (Less n)) xs → list_any (span_has i) xs ≡ false
  spans_lack xs h = none_any (SpanOnly (Less n)) (span_has i) span_lacks xs h

  place_lacks : (p : Places) → PlaceOnly (Less n) p → places_have i p ≡ false
  place_lacks (From f count) h = form_lacks f h
  place_lacks (Folded count) h = refl

-- ---- what is known

-- the binder binds a symbol before this one, over such symbols
abbrev pub BinderLow : ℕ → Binder → Type 0
BinderLow n (Ranged j x) = (j < n) × SpanOnly (Less n) x
BinderLow n (Picked j pick fs) = (j < n) × AreOnly (Less n) fs
BinderLow n (Passed low high) = Only (Less n) low × Only (Less n) high

abbrev pub BufferLow : ℕ → Buffer → Type 0
BufferLow n b = AllByRecursion (PlaceOnly (Less n)) b.places

-- the region of the claim of this number is told by symbols before this one
abbrev pub Told : Outline → ℕ → ℕ → Type 0
Told outline m c = AllByRecursion (SpanOnly (Less m)) (outline.claim c).region

abbrev pub BothTold : Outline → ℕ → Updating → Type 0
BothTold outline m u = Told outline m u.before × Told outline m u.next

-- what is known is told by symbols before n, and the claims in force by those before m
pub record IsBelow (outline : Outline) (m n : ℕ) (known : Known) : Type 0 where
  pub over : m ≤ n
  pub binders : AllByRecursion (BinderLow n) known.binders
  pub buffers : AllByRecursion (BufferLow n) known.buffers
  pub claims : AllByRecursion (Told outline m) known.claims
  pub own : AllByRecursion (Told outline m) known.own
  pub updating : AllByRecursion (BothTold outline m) known.updating

binder_lacks : (n i : ℕ) → n ≤ i → (b : Binder) → BinderLow n b → binder_has i b ≡ false
binder_lacks n i le (Ranged j x) h = (let name = differs j n i h.0 le in let span = span_lacks n i le x h.1 in λ t. name t || span t)
binder_lacks n i le (Picked j pick fs) h = (let name = differs j n i h.0 le in let forms = forms_lack n i le fs h.1 in λ t. name t || forms t)
binder_lacks n i le (Passed low high) h = (let first = form_lacks n i le low h.0 in let second = form_lacks n i le high h.1 in λ t. first t || second t)

buffer_lacks : (n i : ℕ) → n ≤ i → (b : Buffer) → BufferLow n b → list_any (places_have i) b.places ≡ false
buffer_lacks n i le b h = none_any (PlaceOnly (Less n)) (places_have i) (place_lacks n i le) b.places h

-- ---- more symbols

module _ (n k : ℕ) (le : n ≤ k) where
  less_more : (s : ℕ) → Less n s → Less k s
  less_more s h = omega (arith, h, le)

  span_more : (x : Span1) → SpanOnly (Less n) x → SpanOnly (Less k) x
  span_more x h = (are_weaker (Less n) (Less k) less_more x.lower h.0, are_weaker (Less n) (Less k) less_more x.upper h.1)

  binder_more : (b : Binder) → BinderLow n b → BinderLow k b
  binder_more (Ranged j x) h = (less_more j h.0, span_more x h.1)
  binder_more (Picked j pick fs) h = (less_more j h.0, are_weaker (Less n) (Less k) less_more fs h.1)
  binder_more (Passed low high) h = (form_weaker (Less n) (Less k) less_more low h.0, form_weaker (Less n) (Less k) less_more high h.1)

  place_more : (p : Places) → PlaceOnly (Less n) p → PlaceOnly (Less k) p
  place_more (From f count) h = form_weaker (Less n) (Less k) less_more f h
  place_more (Folded count) h = tt

  buffer_more : (b : Buffer) → BufferLow n b → BufferLow k b
  buffer_more b h = all_weaker (PlaceOnly (Less n)) (PlaceOnly (Less k)) place_more b.places h

  below_more : (outline : Outline) (m : ℕ) (known : Known) → IsBelow outline m n known → IsBelow outline m k known
  below_more outline m known h = record {
    over = (let first = h.over in omega (arith, first, le));
    binders = all_weaker (BinderLow n) (BinderLow k) binder_more known.binders h.binders;
    buffers = all_weaker (BufferLow n) (BufferLow k) buffer_more known.buffers h.buffers;
    claims = h.claims;
    own = h.own;
    updating = h.updating;
  }

-- ---- statements

-- the next symbol behind a statement
abbrev pub behind : ℕ → Statement → ℕ
behind n (Let i pick fs) = i + 1
behind n _ = n

-- only symbols before n are in scope: loops and lets bind others, in their order, and what they name is before these
abbrev mutual
  pub Fresh : ℕ → Statement → Type 0
  Fresh n (Seq all) = FreshAll n all
  Fresh n (For i x kind body) = (n ≤ i) × SpanOnly (Less i) x × Fresh (i + 1) body
  Fresh n (Let i pick fs) = (n ≤ i) × AreOnly (Less i) fs
  Fresh n (First i a b) = ⊥
  Fresh n (Guard low high body) = Only (Less n) low × Only (Less n) high × Fresh n body
  Fresh n (Alloc b x places) = AllByRecursion (PlaceOnly (Less n)) places
  Fresh n (Fetch b h region) = Unit {0}
  Fresh n (Store b k at e) = Unit {0}
  Fresh n (Publish c) = Unit {0}

  pub FreshAll : ℕ → Statements → Type 0
  FreshAll n Empty = Unit {0}
  FreshAll n (Then a rest) = (1 ≤ lines a) × Fresh n a × FreshAll (behind n a) rest

module _ (outline : Outline) (rules : Rules) (m : ℕ) where
  abbrev Below : ℕ → Known → Type 0
  Below n known = IsBelow outline m n known

  no_symbol : (n i : ℕ) (x : Span1) (known : Known) → Below n known → n ≤ i → SpanOnly (Less i) x → has_symbol outline rules i x known ≡ false
  no_symbol n i x known h le over =
      let first = h.over in
      let claimed : m ≤ i = omega (arith, first, le) in
      let told : (c : ℕ) → Told outline m c → list_any (span_has i) (region_of outline rules c) ≡ false = λ c k. spans_lack m i claimed (outline.claim c).region k in
      let both : (u : Updating) → BothTold outline m u → (list_any (span_has i) (region_of outline rules u.before) || list_any (span_has i) (region_of outline rules u.next)) ≡ false =
      λ u k. (let before = told u.before k.0 in let next = told u.next k.1 in λ t. before t || next t) in
      let a = span_lacks i i (omega arith) x over in
      let b = none_any (BinderLow n) (binder_has i) (binder_lacks n i le) known.binders h.binders in
      let c = none_any (BufferLow n) (λ (b : Buffer). list_any (places_have i) b.places) (buffer_lacks n i le) known.buffers h.buffers in
      let d = none_any (Told outline m) (λ c. list_any (span_has i) (region_of outline rules c)) told known.claims h.claims in
      let e = none_any (BothTold outline m)
      (λ (u : Updating). list_any (span_has i) (region_of outline rules u.before) || list_any (span_has i) (region_of outline rules u.next)) both known.updating h.updating in
      λ t. a t || (b t || (c t || (d t || e t)))

  shown_free : (nests : Nests) (b : Bool) → b ≡ false → (not b && true) ≡ true
  shown_free nests b e = ap (λ (t : Bool). not t && true) e

  -- ---- what is known inside and behind

  nests_told : (a : Statement) (next own : List ℕ) → AllByRecursion (Told outline m) next → AllByRecursion (Told outline m) own →
      AllByRecursion (BothTold outline m) (nests_of outline rules a next own)
  nests_told a next own h k =
      all_flat (Told outline m) (BothTold outline m) (λ (c : ℕ). map (λ (d : ℕ). record { before = d; next = c }) (filter (λ d. follows outline rules d c) own))
      (λ c t. all_mapped (Told outline m) (BothTold outline m) (λ (d : ℕ). record { before = d; next = c }) (λ d j. (j, t)) (filter (λ d. follows outline rules d c) own)
      (filter-all (Told outline m) (λ d. follows outline rules d c) own k))
      (filter (λ c. updates outline.setting a (outline.claim c).buffer (outline.claim c).function) next)
      (filter-all (Told outline m) (λ c. updates outline.setting a (outline.claim c).buffer (outline.claim c).function) next h)

  inner : (n : ℕ) (a : Statement) (next : List ℕ) (known : Known) → AllByRecursion (Told outline m) next → Below n known → Below n (within outline rules a next known)
  inner n a next known t h = record {
    over = h.over;
    binders = h.binders;
    buffers = h.buffers;
    claims = h.claims;
    own = h.own;
    updating = all-append (BothTold outline m) (nests_of outline rules a next known.own) known.updating (nests_told a next known.own t h.own) h.updating;
  }

  blocked : (n : ℕ) (known : Known) → Below n known → Below n (in_block outline rules known)
  blocked n known h = record { over = h.over; binders = h.binders; buffers = h.buffers; claims = h.claims; own = tt; updating = h.updating }

  guarded : (n : ℕ) (low high : Form) (known : Known) → Only (Less n) low → Only (Less n) high → Below n known → Below n (in_guard outline rules low high known)
  guarded n low high known l u h = record { over = h.over; binders = ((l, u), h.binders); buffers = h.buffers; claims = h.claims; own = tt; updating = h.updating }

  looped : (n i : ℕ) (x : Span1) (body : Statement) (known : Known) → n ≤ i → SpanOnly (Less i) x → Below n known → Below (i + 1) (in_loop outline rules i x body known)
  looped n i x body known le over h =
      let more = below_more n (i + 1) (omega (arith, le)) outline m known h in
      record {
        over = more.over;
        binders = ((omega arith, span_more i (i + 1) (omega arith) x over), more.binders);
        buffers = more.buffers;
        claims = filter-all (Told outline m) (is_left outline rules body) known.claims h.claims;
        own = tt;
        updating = h.updating;
      }

  -- behind a statement that is no let and no allocation
  past : (n : ℕ) (a : Statement) (next : List ℕ) (known : Known) → AllByRecursion (Told outline m) next → Below n known →
      Below n (record {
        binders = known.binders;
        buffers = known.buffers;
        claims = next ++ filter (is_left outline rules a) known.claims;
        own = next ++ filter (is_left outline rules a) known.own;
        updating = known.updating;
      })
  past n a next known t h = record {
    over = h.over;
    binders = h.binders;
    buffers = h.buffers;
    claims = all-append (Told outline m) next (filter (is_left outline rules a) known.claims) t (filter-all (Told outline m) (is_left outline rules a) known.claims h.claims);
    own = all-append (Told outline m) next (filter (is_left outline rules a) known.own) t (filter-all (Told outline m) (is_left outline rules a) known.own h.own);
    updating = h.updating;
  }

  onward : (n : ℕ) (a : Statement) (next : List ℕ) (known : Known) → AllByRecursion (Told outline m) next → Fresh n a → Below n known → Below (behind n a) (onwards outline rules a next known)
  onward n (Seq all) next known t f h = past n (Seq all) next known t h
  onward n (For i x kind body) next known t f h = past n (For i x kind body) next known t h
  onward n (Let i pick fs) next known t f h =
      let le = f.0 in
      let more = below_more n (i + 1) (omega (arith, le)) outline m known h in
      record {
        over = more.over;
        binders = ((omega arith, are_weaker (Less i) (Less (i + 1)) (less_more i (i + 1) (omega arith)) fs f.1), more.binders);
        buffers = more.buffers;
        claims = filter-all (Told outline m) (is_left outline rules (Let i pick fs)) known.claims h.claims;
        own = filter-all (Told outline m) (is_left outline rules (Let i pick fs)) known.own h.own;
        updating = h.updating;
      }
  onward n (First i a b) next known t f h = absurd f
  onward n (Guard low high body) next known t f h = past n (Guard low high body) next known t h
  onward n (Alloc b x places) next known t f h =
      let r = past n (Alloc b x places) next known t h in
      record { over = r.over; binders = r.binders; buffers = (f, r.buffers); claims = r.claims; own = r.own; updating = r.updating }
  onward n (Fetch b g region) next known t f h = past n (Fetch b g region) next known t h
  onward n (Store b k at e) next known t f h = past n (Store b k at e) next known t h
  onward n (Publish c) next known t f h = past n (Publish c) next known t h

  -- ---- at these lines the claims are told

  abbrev pub Shown : Statement → ℕ → Known → Type 0
  Shown s line known = IsStep s → (nests : Nests) → all_shown rules nests (own_obligations outline rules s line known) ≡ true

  module _ (from to : ℕ) (named : (line : ℕ) → from < line → line < to → AllByRecursion (Told outline m) (outline.named line)) where
    mutual
      pub each_shown : (s : Statement) (n line : ℕ) (known : Known) → Fresh n s → Below n known → from < line → line + lines s ≤ to → EachOwn outline rules Shown s line known
      each_shown (Seq all) n line known f h low high = all_of all n line (in_block outline rules known) f (blocked n known h) low high
      each_shown (For i x kind body) n line known f h low high = (
        λ is nests. shown_free nests _ (no_symbol n i x known h f.0 f.1),
        each_shown body (i + 1) (line + 1) (in_loop outline rules i x body known) f.2 (looped n i x body known f.0 f.1 h) (omega (arith, low)) (omega (arith, high)),
      )
      each_shown (Let i pick fs) n line known f h low high = λ is nests. shown_free nests _ (no_symbol n i (from_each fs) known h f.0 (f.1, tt))
      each_shown (First i a b) n line known f h low high = absurd f
      each_shown (Guard first last body) n line known f h low high =
          each_shown body n (line + 1) (in_guard outline rules first last known) f.2 (guarded n first last known f.0 f.1 h) (omega (arith, low)) (omega (arith, high))
      each_shown (Alloc b x places) n line known f h low high = λ is. absurd is
      each_shown (Fetch b g region) n line known f h low high = λ is. absurd is
      each_shown (Store b k at e) n line known f h low high = λ is. absurd is
      each_shown (Publish c) n line known f h low high = λ is. absurd is

      pub all_of : (all : Statements) (n line : ℕ) (known : Known) → FreshAll n all → Below n known → from < line → line + block_lines all ≤ to → OwnOf outline rules Shown all line known
      all_of Empty n line known f h low high = tt
      all_of (Then a rest) n line known f h low high =
          let some = f.0 in
          let next = outline.named (line + lines a - 1) in
          let told = named (line + lines a - 1) (omega (arith, low, some)) (omega (arith, high, some)) in (
            each_shown a n line (within outline rules a next known) f.1 (inner n a next known told h) low (omega (arith, high)),
            all_of rest (behind n a) (line + lines a) (onwards outline rules a next known) f.2 (onward n a next known told f.1 h) (omega (arith, low)) (omega (arith, high)),
          )
