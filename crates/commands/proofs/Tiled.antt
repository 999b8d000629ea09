-- Tiles of a list, and files of kinds.
use Rattle.std.proofs.Common.{◌≡◌, ◌≢◌, ◌⊎◌, ◌∙◌, ap, sym, subst, refl, ℕ, suc, zero, ◌+◌, ◌<◌, ◌≤◌, ◌^◌, Bool, true, false, cond, List, [], ◌∷◌, ◌++◌, length, map, codes, slice_get, Option, None, Some, inl, inr, arith}
use Rattle.std.proofs.Common.{Result, Ok, Err}
use Rattle.std.specs.Prelude.{IfErr, OnErr, decimal, get_or, option_map, string_bytes}
use Rattle.std.specs.declared.string.String.{String}
use Rattle.std.specs.Global.{Global}
use Rattle.std.specs.Str.{bytes_eq}
use Rattle.std.specs.List.{AllZip, range_with_len}
use Rattle.std.specs.Str.Parse.{digits_value}
use Rattle.std.proofs.lemmas.Fmt.{decimal_is_IsNumeral}
use Rattle.std.proofs.lemmas.Grind.{flat_map-append}
use Rattle.std.proofs.lemmas.List.{append_cancel_left, append_cancel_right, length-map}
use Rattle.std.proofs.lemmas.List.FromFn.{map-range_with_len_more}
use Rattle.std.proofs.lemmas.Option.{slice_get-map, slice_get_read}
use Rattle.std.proofs.lemmas.Slice.Eq.{bytes_eq-Decides}
use Rattle.clap.specs.Words.{Text}
use Rattle.meaning.specs.Algorithm.{Algorithm}
use Rattle.crop.specs.Tiling.{rect_at}
use Rattle.crop.specs.declared.cropping.Rect.{Rect}
use Rattle.crop.specs.declared.tiling.Tiling.{Tiling}
use Rattle.commands.specs.declared.tiles_command.Tiles.{Tiles}
use Rattle.commands.specs.declared.pipeline.fault.Fault.{Fault}
use Rattle.commands.specs.Asked.{AskedTiles}
use Rattle.commands.specs.Crops.{IsSceneFile}
use Rattle.commands.specs.Files.{Contents, Holds, Puts, SameFiles, SameOthers}
use Rattle.commands.specs.Tilings.{AllPut, ArePut, AreFirst, AreLines, HoldsFirst, IsAdded, IsCutBy, IsCutInto, IsCutPut, IsCutUnput, IsCutUp, IsDone, IsLine, IsRefused, IsTileName, KeepsKinds, Line}
use Rattle.commands.specs.Tilings.{SameBeside, kind_name, kinds_of, line_text, list_name, list_text}
use Rattle.commands.proofs.Kept.{same_then}

-- ---- lines

line_kept : (a : Algorithm) (old new : List (List ℕ)) (rect : Rect) (line : Line) → KeepsKinds old new → IsLine a old rect line → IsLine a new rect line
line_kept a old new rect line keeps h = record { text = h.text; same = h.same; kind = keeps line.kind h.text h.kind; tile = h.tile }

lines_kept : (a : Algorithm) (old new : List (List ℕ)) (rects : List Rect) (lines : List Line) → KeepsKinds old new → AllZip (IsLine a old) rects lines → AllZip (IsLine a new) rects lines
lines_kept a old new [] [] keeps h = tt
lines_kept a old new [] (l ∷ ls) keeps h = absurd h
lines_kept a old new (r ∷ rs) [] keeps h = absurd h
lines_kept a old new (r ∷ rs) (l ∷ ls) keeps h = (line_kept a old new r l keeps h.0, lines_kept a old new rs ls keeps h.1)

zip_push : {A B : Type 0} (R : A → B → Type 0) (xs : List A) (ys : List B) (x : A) (y : B) → AllZip R xs ys → R x y → AllZip R (xs ++ x ∷ []) (ys ++ y ∷ [])
zip_push R [] [] x y h r = (r, tt)
zip_push R [] (v ∷ ys) x y h r = absurd h
zip_push R (u ∷ xs) [] x y h r = absurd h
zip_push R (u ∷ xs) (v ∷ ys) x y h r = (h.0, zip_push R xs ys x y h.1 r)

append_empty : (xs : List ℕ) → xs ++ [] ≡ xs
append_empty [] = refl
append_empty (x ∷ xs) = ap (λ z. x ∷ z) (append_empty xs)

pub first_next : (a : Algorithm) (t : Tiling) (n : ℕ) (rect : Rect) (old new : Tiles) → rect ≡ rect_at t n → AreFirst a t n old → IsAdded a rect old new → AreFirst a t (n + 1) new
first_next a t n rect old new is h one_more =
    let added : IsAdded a (rect_at t n) old new = subst (λ r. IsAdded a r old new) is one_more in
    let lines : List Line = h.lines ++ added.line ∷ [] in
    let one : list_text (added.line ∷ []) ≡ line_text added.line = append_empty (line_text added.line) in
    let both : list_text lines ≡ list_text h.lines ++ line_text added.line = flat_map-append line_text h.lines (added.line ∷ []) ∙ ap (λ z. list_text h.lines ++ z) one in
    let kept : AreLines a t n (kinds_of new) h.lines = lines_kept a (kinds_of old) (kinds_of new) (map (rect_at t) (range_with_len 0 n)) h.lines added.kinds h.are_lines in
    let pushed = zip_push (IsLine a (kinds_of new)) (map (rect_at t) (range_with_len 0 n)) h.lines (rect_at t n) added.line kept added.is_line in
    let from_none : 0 + n ≡ n = omega arith in
    let Zipped : List Rect → Type 0 = λ rects. AllZip (IsLine a (kinds_of new)) rects lines in record {
      lines = lines;
      list = added.list ∙ ap (λ z. z ++ line_text added.line) h.list ∙ sym both;
      are_lines = subst Zipped (sym (map-range_with_len_more (rect_at t) 0 n n from_none)) pushed;
    }

-- ---- kinds

kept_at : (xs ys : List (List ℕ)) (k : ℕ) (text : List ℕ) → slice_get xs k ≡ Some text → slice_get (xs ++ ys) k ≡ Some text
kept_at [] ys k text is = absurd (cc is)
kept_at (x ∷ xs) ys zero text is = is
kept_at (x ∷ xs) ys (suc k) text is = kept_at xs ys k text is

map_behind : (xs : List (String Global)) (x : String Global) → map string_bytes (xs ++ x ∷ []) ≡ map string_bytes xs ++ string_bytes x ∷ []
map_behind [] x = refl
map_behind (y ∷ ys) x = ap (λ z. string_bytes y ∷ z) (map_behind ys x)

-- kinds stay where a text is added to them
pub kinds_kept : (old new : List (String Global)) (x : String Global) (known : Bool) → new ≡ cond known old (old ++ x ∷ []) → KeepsKinds (map string_bytes old) (map string_bytes new)
kinds_kept old new x true is k text told = ap (λ z. slice_get (map string_bytes z) k) is ∙ told
kinds_kept old new x false is k text told =
    ap (λ z. slice_get (map string_bytes z) k) is ∙ ap (λ z. slice_get z k) (map_behind old x) ∙ kept_at (map string_bytes old) (string_bytes x ∷ []) k text told

-- the text at a number is that of an equal one
pub kind_found : (kinds : List (String Global)) (k : ℕ) (text other : String Global) → slice_get kinds k ≡ Some other → bytes_eq (string_bytes text) (string_bytes other) ≡ true
    → slice_get (map string_bytes kinds) k ≡ Some (string_bytes text)
kind_found kinds k text other at same =
    slice_get-map string_bytes kinds k ∙ ap (option_map string_bytes) at ∙ ap Some (sym ((bytes_eq-Decides (string_bytes text) (string_bytes other)).0 same))

-- ---- names

decimal_one : (j k : ℕ) → j < 2 ^ 64 → k < 2 ^ 64 → decimal j ≡ decimal k → j ≡ k
decimal_one j k small other same = sym (decimal_is_IsNumeral j small).1 ∙ ap (digits_value 10) same ∙ (decimal_is_IsNumeral k other).1

-- each kind has a name of its own
names_differ : (folder : Text) (j k : ℕ) → j < 2 ^ 64 → k < 2 ^ 64 → j < k → kind_name folder j ≢ kind_name folder k
names_differ folder j k small other lt same =
    let name : ℕ → List ℕ = λ n. codes "/" ++ (decimal n ++ codes ".alg") in
    let inner : name j ≡ name k = append_cancel_left folder (name j) (name k) same in
    let number : decimal j ++ codes ".alg" ≡ decimal k ++ codes ".alg" = append_cancel_left (codes "/") (decimal j ++ codes ".alg") (decimal k ++ codes ".alg") inner in
    let one : j ≡ k = decimal_one j k small other (append_cancel_right (decimal j) (decimal k) (codes ".alg") number) in
    omega (arith, lt, one)

last_of : ℕ → List ℕ → ℕ
last_of last [] = last
last_of last (x ∷ xs) = last_of x xs

-- the last letter of `.alg`
last_letter : (last : ℕ) (xs : List ℕ) → last_of last (xs ++ codes ".alg") ≡ 103
unfolding last_of
last_letter last [] = refl
last_letter last (x ∷ xs) = last_letter x xs

-- and none is that of the list, whose last letter is another one
kind_is_no_list : (folder : Text) (k : ℕ) → kind_name folder k ≢ list_name folder
unfolding last_of
kind_is_no_list folder k same =
    let inner : codes "/" ++ (decimal k ++ codes ".alg") ≡ codes "/list" = append_cancel_left folder (codes "/" ++ (decimal k ++ codes ".alg")) (codes "/list") same in
    let rest : decimal k ++ codes ".alg" ≡ codes "list" = append_cancel_left (codes "/") (decimal k ++ codes ".alg") (codes "list") inner in
    let letters : 103 ≡ 116 = sym (last_letter 0 (decimal k)) ∙ ap (last_of 0) rest in
    omega (arith, letters)

-- ---- files

beside_put : (old mid new : Contents) (folder : Text) (n : ℕ) (name : Text) → SameBeside old mid folder n → SameOthers mid new name → IsTileName folder n name → SameBeside old new folder n
beside_put None mid new folder n name h same is = tt
beside_put (Some at) None new folder n name h same is = absurd h
beside_put (Some at) (Some now) None folder n name h same is = absurd same
beside_put (Some at) (Some now) (Some last) folder n name h same is =
    λ other beside. same other (λ e. beside (subst (IsTileName folder n) (sym e) is)) ∙ h other beside

-- all files are as before, and then all but a tiling's
pub same_beside : (a b c : Contents) (folder : Text) (n : ℕ) → SameFiles a b → SameBeside b c folder n → SameBeside a c folder n
same_beside None b c folder n h k = tt
same_beside (Some at) None c folder n h k = absurd h
same_beside (Some at) (Some now) None folder n h k = absurd k
same_beside (Some at) (Some now) (Some last) folder n h k = λ other beside. k other beside ∙ h other

up : (k n : ℕ) → (k ≡ n) ⊎ (k < n) → (suc k ≡ suc n) ⊎ (suc k < suc n)
up k n (inl same) = inl (ap suc same)
up k n (inr lt) = inr (omega (arith, lt))

last_or_before : (k n : ℕ) → k < n + 1 → (k ≡ n) ⊎ (k < n)
last_or_before zero zero lt = inl refl
last_or_before zero (suc n) lt = inr (omega arith)
last_or_before (suc k) zero lt = absurd (omega (arith, lt))
last_or_before (suc k) (suc n) lt = up k n (last_or_before k n (omega (arith, lt)))

module _ (now last : List ℕ → Option (List ℕ)) (folder : Text) (kinds : List (List ℕ)) (n : ℕ) (bytes : List ℕ) where
  held_next : n < 2 ^ 64 → slice_get kinds n ≡ Some bytes → Puts (Some now) (Some last) (kind_name folder n) bytes
      → (k : ℕ) (text : List ℕ) → (k < n → now (kind_name folder k) ≡ Some text) → slice_get kinds k ≡ Some text → (k ≡ n) ⊎ (k < n) → last (kind_name folder k) ≡ Some text
  held_next small is put k text before told (inl same) =
      let named : kind_name folder k ≡ kind_name folder n = ap (kind_name folder) same in
      let own : Some bytes ≡ Some text = sym is ∙ sym (ap (slice_get kinds) same) ∙ told in
      ap last named ∙ put.0 ∙ own
  held_next small is put k text before told (inr lt) =
      put.1 (kind_name folder k) (names_differ folder k n (omega (arith, small, lt)) small lt) ∙ before lt

-- nothing was put yet
none_held : (a b : Contents) (folder : Text) (kinds : List (List ℕ)) → HoldsFirst a b folder kinds 0
none_held None b folder kinds = tt
none_held (Some at) b folder kinds = λ k text lt told. absurd (omega (arith, lt))

beside_refl : (a : Contents) (folder : Text) (n : ℕ) → SameBeside a a folder n
beside_refl None folder n = tt
beside_refl (Some at) folder n = λ other beside. refl

-- one more kind was put
kind_put : (old mid new : Contents) (folder : Text) (kinds : List (List ℕ)) (n m : ℕ) (bytes : List ℕ) → n < 2 ^ 64 → slice_get kinds n ≡ Some bytes
    → HoldsFirst old mid folder kinds n → SameBeside old mid folder m → Puts mid new (kind_name folder n) bytes → HoldsFirst old new folder kinds (n + 1)
kind_put None mid new folder kinds n m bytes small is h same put = tt
kind_put (Some at) None new folder kinds n m bytes small is h same put = absurd same
kind_put (Some at) (Some now) None folder kinds n m bytes small is h same put = absurd put.1
kind_put (Some at) (Some now) (Some last) folder kinds n m bytes small is h same put =
    λ k text lt told. held_next now last folder kinds n bytes small is put k text (λ before. h k text before told) told (last_or_before k n lt)

-- what is so where the first kinds were put
abbrev pub ArePutUpTo : Contents → Contents → Text → List (List ℕ) → ℕ → Type 0
ArePutUpTo old new folder kinds n = HoldsFirst old new folder kinds n × SameBeside old new folder (length kinds)

kind_at : (kinds : List (String Global)) (k : ℕ) (text : String Global) → k < length kinds → text ≡ get_or kinds k text → slice_get (map string_bytes kinds) k ≡ Some (string_bytes text)
kind_at kinds k text lt is = slice_get-map string_bytes kinds k ∙ ap (option_map string_bytes) (slice_get_read kinds (length kinds) k text refl lt is)

is_kind_name : (folder : Text) (kinds : List (String Global)) (k : ℕ) → k < length kinds → IsTileName folder (length (map string_bytes kinds)) (kind_name folder k)
is_kind_name folder kinds k lt = inr (k, omega (arith, lt, length-map kinds string_bytes), refl)

-- one more
pub kinds_next : (old mid new : Contents) (folder : Text) (kinds : List (String Global)) (k : ℕ) (text : String Global) (name bytes : List ℕ) → k < 2 ^ 64
    → k < length kinds → text ≡ get_or kinds k text
    → name ≡ kind_name folder k → bytes ≡ string_bytes text → ArePutUpTo old mid folder (map string_bytes kinds) k → Puts mid new name bytes
    → ArePutUpTo old new folder (map string_bytes kinds) (k + 1)
kinds_next old mid new folder kinds k text name bytes small lt is named given h put =
    let Names : Text → Type 0 = λ x. Puts mid new x bytes in
    let Gives : Text → Type 0 = λ x. Puts mid new (kind_name folder k) x in
    let whole : Puts mid new (kind_name folder k) (string_bytes text) = subst Gives given (subst Names named put) in
    let n = length (map string_bytes kinds) in (
      kind_put old mid new folder (map string_bytes kinds) k n (string_bytes text) small (kind_at kinds k text lt is) h.0 h.1 whole,
      beside_put old mid new folder n (kind_name folder k) h.1 whole.1 (is_kind_name folder kinds k lt),
    )

-- one could not be put
pub kinds_stopped : (old mid new : Contents) (folder : Text) (kinds : List (String Global)) (k : ℕ) (name : List ℕ) → k < length kinds → name ≡ kind_name folder k
    → SameBeside old mid folder (length (map string_bytes kinds)) → SameOthers mid new name → SameBeside old new folder (length (map string_bytes kinds))
kinds_stopped old mid new folder kinds k name lt named h others =
    beside_put old mid new folder (length (map string_bytes kinds)) (kind_name folder k) h (subst (SameOthers mid new) named others) (is_kind_name folder kinds k lt)

-- none yet
pub none_put : (a : Contents) (folder : Text) (kinds : List (List ℕ)) → ArePutUpTo a a folder kinds 0
none_put a folder kinds = (none_held a a folder kinds, beside_refl a folder (length kinds))

-- all of them
pub all_kinds : (old new : Contents) (folder : Text) (kinds : List (String Global)) (k : ℕ) → k ≤ length kinds → length kinds ≤ k
    → ArePutUpTo old new folder (map string_bytes kinds) k → ArePut old new folder (map string_bytes kinds)
all_kinds old new folder kinds k le over h =
    let all : k ≡ length (map string_bytes kinds) = omega (arith, le, over, length-map kinds string_bytes) in
    (subst (HoldsFirst old new folder (map string_bytes kinds)) all h.0, h.1)

-- files that are as before a tiling was put
held_first : (a b c : Contents) (folder : Text) (kinds : List (List ℕ)) (n : ℕ) → SameFiles a b → HoldsFirst b c folder kinds n → HoldsFirst a c folder kinds n
held_first None b c folder kinds n h k = tt
held_first (Some at) None c folder kinds n h k = absurd h
held_first (Some at) (Some now) c folder kinds n h k = k

pub all_put : (a b c : Contents) (folder : Text) (kinds : List (List ℕ)) (list told : List ℕ) → SameFiles a b → AllPut b c folder kinds list → list ≡ told → AllPut a c folder kinds told
all_put a b c folder kinds list told h p is = record {
  held = subst (Holds c (list_name folder)) is p.held;
  texts = held_first a b c folder kinds (length kinds) h p.texts;
  others = same_beside a b c folder (length kinds) h p.others;
}

-- the list was put behind the kinds
list_put : (old mid new : Contents) (folder : Text) (kinds : List (List ℕ)) (n m : ℕ) → HoldsFirst old mid folder kinds n → SameBeside old mid folder m
    → SameOthers mid new (list_name folder) → HoldsFirst old new folder kinds n
list_put None mid new folder kinds n m h same others = tt
list_put (Some at) None new folder kinds n m h same others = absurd same
list_put (Some at) (Some now) None folder kinds n m h same others = absurd others
list_put (Some at) (Some now) (Some last) folder kinds n m h same others = λ k text lt told. others (kind_name folder k) (kind_is_no_list folder k) ∙ h k text lt told

pub list_told : (old mid new : Contents) (folder : Text) (kinds : List (List ℕ)) (name bytes list : List ℕ) → ArePut old mid folder kinds → name ≡ list_name folder
    → bytes ≡ list → Puts mid new name bytes → AllPut old new folder kinds list
list_told old mid new folder kinds name bytes list h named given put =
    let Names : Text → Type 0 = λ x. Puts mid new x bytes in
    let Gives : Text → Type 0 = λ x. Puts mid new (list_name folder) x in
    let whole : Puts mid new (list_name folder) list = subst Gives given (subst Names named put) in record {
      held = whole.0;
      texts = list_put old mid new folder kinds (length kinds) (length kinds) h.0 h.1 whole.1;
      others = beside_put old mid new folder (length kinds) (list_name folder) h.1 whole.1 (inl refl);
    }

-- it could not be put
pub list_stopped : (old mid new : Contents) (folder : Text) (n : ℕ) (name : List ℕ) → name ≡ list_name folder → SameBeside old mid folder n → SameOthers mid new name
    → SameBeside old new folder n
list_stopped old mid new folder n name named h others = beside_put old mid new folder n (list_name folder) h (subst (SameOthers mid new) named others) (inl refl)

-- what is so of kinds is so of the same ones
pub beside_as : (old new : Contents) (folder : Text) (kinds same : List (String Global)) → kinds ≡ same → SameBeside old new folder (length (map string_bytes kinds))
    → SameBeside old new folder (length (map string_bytes same))
beside_as old new folder kinds same is h = subst (λ ks. SameBeside old new folder (length (map string_bytes ks))) is h

pub put_as : (old new : Contents) (folder : Text) (kinds same : List (String Global)) → kinds ≡ same → ArePut old new folder (map string_bytes kinds)
    → ArePut old new folder (map string_bytes same)
put_as old new folder kinds same is h = subst (λ ks. ArePut old new folder (map string_bytes ks)) is h

-- what is known of an error from two clauses
pub with_err : {T : Type 0} (r : Result T Fault) (A : Type 0) (P Q : Fault → Type 0) → OnErr r A → IfErr r P → (A → (fault : Fault) → P fault → Q fault) → IfErr r Q
with_err (Ok x) A P Q a p f = tt
with_err (Err e) A P Q a p f = f a e p

-- the tiles that were made are those of the sides that are asked for
abbrev pub cut_by : (a : AskedTiles) (x : Algorithm) (tiles : Tiles) (cut : IsCutInto x a.width a.height tiles) → IsCutBy a x (kinds_of tiles) cut.all.lines
cut_by a x tiles cut = record { tiling = cut.tiling; is_tiling = cut.is_tiling; mosaic = cut.mosaic; are_lines = cut.all.are_lines }

-- the files stay as they are until the kinds are put
module _ (old : Contents) (a : AskedTiles) (x : Algorithm) (file : IsSceneFile old a.algorithm x) (mid : Contents) (same : SameFiles old mid) where
  cut_up : (kinds : List (List ℕ)) (lines : List Line) → IsCutBy a x kinds lines → IsCutUp old a kinds lines
  cut_up kinds lines h = record { algorithm = x; tiling = h.tiling; file = file; is_tiling = h.is_tiling; mosaic = h.mosaic; are_lines = h.are_lines }

  pub cut_put : (new : Contents) → IsCutPut mid new a x → IsDone old new a
  cut_put new h = record {
    kinds = h.0;
    lines = h.1;
    cut = cut_up h.0 h.1 h.2;
    put = all_put old mid new a.folder h.0 (list_text h.1) (list_text h.1) same h.3 refl;
  }

  pub cut_refused : (new : Contents) (fault : Fault) → IsCutUnput mid new a x fault → IsRefused old new a fault
  cut_refused new fault (inl h) = inl (same_then old mid new same h.0, inr (inr (record { algorithm = x; file = file; refused = h.1 })))
  cut_refused new fault (inr h) = inr (record {
    kinds = h.0;
    lines = h.1;
    cut = cut_up h.0 h.1 h.2;
    device = h.3.0;
    others = same_beside old mid new a.folder (length h.0) same h.3.1;
  })
