-- From the functions of a text to its algorithm.
use Rattle.std.proofs.Common.{◌≡◌, ℕ, suc, ◌<◌, ◌++◌, ◌∷◌, [], ◌||◌, List, length, get_or, Bool, true, false, Option, Some, None, IsSome, IfSome, MatchOption, refl, sym, ap, ◌∙◌, subst, arith, if◌then◌else◌, string_bytes}
use Rattle.std.specs.Prelude.{slice_get}
use Rattle.std.specs.String.{string_eq}
use Rattle.std.specs.declared.string.String.{String}
use Rattle.std.specs.Global.{Global}
use Rattle.std.proofs.lemmas.Bool.{false≢true}
use Rattle.std.proofs.lemmas.List.{map-append}
use Rattle.std.proofs.lemmas.Option.{slice_get_within}
use Rattle.indexmap.specs.IndexMap.{insert_entry, insert_all}
use Rattle.numeric.specs.declared.ty.Ty.{Ty}
use Rattle.numeric.specs.declared.ty.Ty.TheVariants.{I32, U8}
use Rattle.meaning.specs.Image.View.{IsSampleType}
use Rattle.meaning.specs.Algorithm as said
use Rattle.meaning.specs.Names.{same_name, is_among}
use Rattle.meaning.specs.Conditions.{AreDistinct, callable, IsExpression, IsUpdate, IsFunction, IsOutput, names_in}
use Rattle.meaning.proofs.Cases.{same_name_is, name_same}
use Rattle.algo.proofs.Doubles.{among_stands}
use Rattle.algo.specs.declared.function.Function.{Function}
use Rattle.algo.specs.Parts.{functions_of, function_of}
use Rattle.algo.specs.Context.{function_names}
use Rattle.algo.proofs.Kept.{stands_left}

-- ---- distinct names

pub distinct_tail : (x : List ℕ) (xs : List (List ℕ)) → AreDistinct (x ∷ xs) → AreDistinct xs
distinct_tail x xs h i j y p q = let e : suc i ≡ suc j = h (suc i) (suc j) y p q in omega (arith, e)

stands_there : (xs : List (List ℕ)) (x : List ℕ) (ys : List (List ℕ)) → slice_get (xs ++ x ∷ ys) (length xs) ≡ Some x
stands_there [] x ys = refl
stands_there (z ∷ xs) x ys = stands_there xs x ys

-- the name behind others is none of them
pub absent : (xs : List (List ℕ)) (x : List ℕ) (ys : List (List ℕ)) → AreDistinct (xs ++ x ∷ ys) → is_among xs x ≡ false
absent xs x ys h = by (is_among xs x) refl
  where
    by : (b : Bool) → is_among xs x ≡ b → is_among xs x ≡ false
    by false e = e
    by true e =
        let s = among_stands xs x e in
        let lt : s.0 < length xs = slice_get_within xs s.0 x s.1 in
        let same : s.0 ≡ length xs = h s.0 (length xs) x (stands_left xs (x ∷ ys) s.0 x s.1) (stands_there xs x ys) in
        absurd (omega (arith, lt, same))

or_left : (b c : Bool) → (b || c) ≡ false → b ≡ false
or_left true c h = h
or_left false c h = refl

or_right : (b c : Bool) → (b || c) ≡ false → c ≡ false
or_right true c h = absurd (false≢true (sym h))
or_right false c h = h

differs : (k x : List ℕ) → same_name x k ≡ false → same_name k x ≡ false
differs k x h = by (same_name k x) refl
  where
    by : (b : Bool) → same_name k x ≡ b → same_name k x ≡ false
    by false e = e
    by true e = absurd (false≢true (sym h ∙ name_same x k (sym (same_name_is k x e))))

-- the names of entries
abbrev names : List (String Global × Function) → List (List ℕ)
names es = function_names (functions_of es)

names-append : (es fs : List (String Global × Function)) → names (es ++ fs) ≡ names es ++ names fs
names-append es fs = ap function_names (map-append function_of es fs) ∙ map-append (λ (f : said.Function). f.name) (functions_of es) (functions_of fs)

-- a new key goes last
insert_new : (es : List (String Global × Function)) (k : String Global) (v : Function) → is_among (names es) (string_bytes k) ≡ false → insert_entry string_eq es k v ≡ es ++ (k, v) ∷ []
insert_new [] k v h = refl
insert_new (e ∷ es) k v h =
    let no : string_eq k e.0 ≡ false = differs (string_bytes k) (string_bytes e.0) (or_left (same_name (string_bytes e.0) (string_bytes k)) (is_among (names es) (string_bytes k)) h) in
    ap (λ (b : Bool). if b then (e.0, v) ∷ es else e ∷ insert_entry string_eq es k v) no
    ∙ ap (λ l. e ∷ l) (insert_new es k v (or_right (same_name (string_bytes e.0) (string_bytes k)) (is_among (names es) (string_bytes k)) h))

push_append : (es : List (String Global × Function)) (x : String Global × Function) (xs : List (String Global × Function)) → (es ++ x ∷ []) ++ xs ≡ es ++ x ∷ xs
push_append [] x xs = refl
push_append (e ∷ es) x xs = ap (λ l. e ∷ l) (push_append es x xs)

-- entries of distinct names stand in the order in which they are inserted
inserted_after : (es xs : List (String Global × Function)) → AreDistinct (names (es ++ xs)) → insert_all string_eq es xs ≡ es ++ xs
inserted_after es [] h = sym (append_none es)
  where
    append_none : (ys : List (String Global × Function)) → ys ++ [] ≡ ys
    append_none [] = refl
    append_none (y ∷ ys) = ap (λ l. y ∷ l) (append_none ys)
inserted_after es (x ∷ xs) h =
    let new : is_among (names es) (string_bytes x.0) ≡ false = absent (names es) (string_bytes x.0) (names xs) (subst AreDistinct (names-append es (x ∷ xs)) h) in
    ap (λ l. insert_all string_eq l xs) (insert_new es x.0 x.1 new)
    ∙ inserted_after (es ++ x ∷ []) xs (subst (λ l. AreDistinct (names l)) (sym (push_append es x xs)) h) ∙ push_append es x xs

pub inserted : (xs : List (String Global × Function)) → AreDistinct (names xs) → insert_all string_eq [] xs ≡ xs
inserted = inserted_after []

-- ---- the same input

module _ (a : said.Algorithm) (name : List ℕ) (fs : List said.Function) (out : List ℕ) (extents : List ℕ) where
  -- the algorithm with a's input, and with the rest
  abbrev pub whole : said.Algorithm
  whole = record a { name = name; functions = fs; output = out; output_extents = extents }

  calls_at : (before : List said.Function) (x : List ℕ) → callable a before x ≡ callable whole before x
  calls_at [] x = refl
  calls_at (g ∷ gs) x =
      let pick : Option (Ty × ℕ) → Option (Ty × ℕ) = λ o. elim (same_name g.name x) [ true ↦ Some (g.ty, length g.variables) | false ↦ o ] in
      ap pick (calls_at gs x)

  -- what can be called is the same
  pub calls : (before : List said.Function) → callable a before ≡ callable whole before
  calls before = λ i x. calls_at before x i

  update_whole : (before : List said.Function) (f : said.Function) (u : said.Change) → IsUpdate a before f u → IsUpdate whole before f u
  update_whole before f u k = record {
    domain = k.domain;
    names = k.names;
    places = k.places;
    left = λ i d lt. subst (λ (c : List ℕ → Option (Ty × ℕ)). IsExpression (names_in f u) c I32 (get_or u.at i d)) (calls before) (k.left i d lt);
    kept = k.kept;
    right = subst (λ (c : List ℕ → Option (Ty × ℕ)). IsExpression (names_in f u) c f.ty u.value) (calls (before ++ f ∷ [])) k.right;
  }

  -- a function of the one is a function of the other
  pub function_whole : (before : List said.Function) (f : said.Function) → IsFunction a before f → IsFunction whole before f
  function_whole before f h = record {
    some = h.some;
    few = h.few;
    names = h.names;
    pure = subst (λ (c : List ℕ → Option (Ty × ℕ)). IsExpression f.variables c f.ty f.value) (calls before) h.pure;
    few_updates = h.few_updates;
    updates = λ i d lt. update_whole before f (get_or f.changes i d) (h.updates i d lt);
  }

-- ---- the output

pub is_output : (r : Option said.Function) (extents : List ℕ) → IsSome r → MatchOption r (Unit {0}) (λ f. length extents ≡ length f.variables) → MatchOption r (Unit {0}) (λ f. IsSampleType f.ty) → MatchOption r ⊥ (IsOutput extents)
is_output None extents s n t = cc
is_output (Some f) extents s n t = record { indexed = n; sampled = t }

pub type_at : (r : Option said.Function) (t : Ty) → IsSome r → IfSome r (λ f. t ≡ f.ty) → t ≡ elim r [ Some f ↦ f.ty | None ↦ U8 ]
type_at None t s e = cc
type_at (Some f) t s e = e
