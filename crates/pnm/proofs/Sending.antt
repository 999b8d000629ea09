-- Writing piece by piece.
use Rattle.std.proofs.Common.{◌≡◌, ℕ, ◌+◌, ◌<◌, List, [], ◌∷◌, ◌++◌, length, take, drop, Option, None, Some, Result, Ok, Err, refl, sym, subst, ap, ◌∙◌, arith, append_assoc, append-nil, take-append-drop, ◌-◌, ◌/◌, ◌%◌, suc, get_or, Bool, true, false, ◌||◌}
use Rattle.std.proofs.lemmas.List.{take_rest, drop_more, drop-drop}
use Rattle.std.specs.List.{flat_map}
use Rattle.std.specs.Io.KnownBytes.{Appends, Keeps}
use Rattle.std.proofs.KnownBytes.{Appends-nil, Appends-trans}
use Rattle.pnm.specs.declared.error.PnmError.{PnmError}
use Rattle.std.proofs.Math.Nat.{mod-eq_of_lt}
use Rattle.numeric.specs.declared.ty.Ty.TheVariants.{U8, U16}
use Rattle.pnm.specs.Source.{Sends}
use Rattle.pnm.specs.Text.{sample_bytes}

-- a beginning of the bytes has gone out, and this is left
pub record HasSent (old new : Option (List ℕ)) (bytes rest : List ℕ) : Type 0 where
  pub sent : List ℕ
  pub whole : bytes ≡ sent ++ rest
  pub takes : Appends old new sent

pub has_sent_nothing : (old : Option (List ℕ)) (bytes : List ℕ) → HasSent old old bytes bytes
has_sent_nothing old bytes = record { sent = []; whole = refl; takes = Appends-nil old }

pub has_sent_more : (old mid new : Option (List ℕ)) (bytes rest : List ℕ) (n : ℕ) → HasSent old mid bytes rest → Appends mid new (take n rest) → HasSent old new bytes (drop n rest)
has_sent_more old mid new bytes rest n h g = record {
  sent = h.sent ++ take n rest;
  whole = h.whole ∙ ap (λ r. h.sent ++ r) (sym (take-append-drop n rest)) ∙ sym (append_assoc h.sent (take n rest) (drop n rest));
  takes = Appends-trans old mid new h.sent (take n rest) h.takes g;
}

Appends-kept : (a b c : Option (List ℕ)) (bs : List ℕ) → Appends a b bs → Keeps b c → Appends a c bs
Appends-kept None b c bs p q = tt
Appends-kept (Some x) None c bs p q = absurd p
Appends-kept (Some x) (Some y) None bs p q = absurd q
Appends-kept (Some x) (Some y) (Some z) bs p q = q ∙ p

pub sends_all : (old new : Option (List ℕ)) (bytes : List ℕ) (x : Unit {0}) → HasSent old new bytes [] → Sends old new bytes (Ok x)
sends_all old new bytes x h = subst (Appends old new) (sym (h.whole ∙ append-nil h.sent)) h.takes

pub sends_none : (old mid new : Option (List ℕ)) (bytes rest : List ℕ) → HasSent old mid bytes rest → Keeps mid new → HasSent old new bytes rest
sends_none old mid new bytes rest h g = record { sent = h.sent; whole = h.whole; takes = Appends-kept old mid new h.sent h.takes g }

-- what is left of the bytes, as a slice of them
pub has_sent_slice : (old mid new : Option (List ℕ)) (bytes rest : List ℕ) (n : ℕ) → HasSent old mid bytes rest → Appends mid new (take n rest) → HasSent old new bytes (take (length rest - n) (drop n rest))
has_sent_slice old mid new bytes rest n h g = subst (HasSent old new bytes) (sym (take_rest rest n)) (has_sent_more old mid new bytes rest n h g)

-- a first piece and a second
pub sends_both : (old mid new : Option (List ℕ)) (xs ys : List ℕ) (r : Result (Unit {0}) PnmError) → Appends old mid xs → Sends mid new ys r → Sends old new (xs ++ ys) r
sends_both old mid new xs ys (Ok y) h g = Appends-trans old mid new xs ys h g
sends_both old mid new xs ys (Err e) h g =
    (g.0, xs ++ g.1, g.2, ap (λ zs. xs ++ zs) g.3 ∙ sym (append_assoc xs g.1 g.2), g.4, Appends-trans old mid new xs g.1 h g.5)

some_more : (rest ys : List ℕ) → 0 < length rest → 0 < length (rest ++ ys)
some_more [] ys l = absurd (omega arith)
some_more (z ∷ zs) ys l = omega arith

-- a first piece that fails
pub sends_first : (old new : Option (List ℕ)) (xs ys : List ℕ) (e : PnmError) → Sends old new xs (Err e) → Sends old new (xs ++ ys) (Err e)
sends_first old new xs ys e h = (h.0, h.1, h.2 ++ ys, ap (λ zs. zs ++ ys) h.3 ∙ append_assoc h.1 h.2 ys, some_more h.2 ys h.4, h.5)

-- an error that is handed on
pub sends_failed : (old new : Option (List ℕ)) (xs : List ℕ) (r : Result (Unit {0}) PnmError) (y e : PnmError) → r ≡ Err y → y ≡ e → Sends old new xs (Err e) → Sends old new xs r
sends_failed old new xs r y e h g s = subst (Sends old new xs) (sym (h ∙ ap Err g)) s

-- the bytes of samples have gone out, and these samples are left
pub record HasSentSamples (f : ℕ → List ℕ) (old new : Option (List ℕ)) (samples rest : List ℕ) : Type 0 where
  pub done : List ℕ
  pub whole : samples ≡ done ++ rest
  pub takes : Appends old new (flat_map f done)

pub has_sent_no_sample : (f : ℕ → List ℕ) (old : Option (List ℕ)) (samples : List ℕ) → HasSentSamples f old old samples samples
has_sent_no_sample f old samples = record { done = []; whole = refl; takes = Appends-nil old }

flat_map-append : (f : ℕ → List ℕ) (xs ys : List ℕ) → flat_map f (xs ++ ys) ≡ flat_map f xs ++ flat_map f ys
flat_map-append f [] ys = refl
flat_map-append f (x ∷ xs) ys = ap (λ zs. f x ++ zs) (flat_map-append f xs ys) ∙ sym (append_assoc (f x) (flat_map f xs) (flat_map f ys))

-- a part of the samples that are left has gone out
pub has_sent_part : (f : ℕ → List ℕ) (old mid new : Option (List ℕ)) (samples rest : List ℕ) (n : ℕ) → HasSentSamples f old mid samples rest
    → Appends mid new (flat_map f (take n rest)) → HasSentSamples f old new samples (drop n rest)
has_sent_part f old mid new samples rest n h g = record {
  done = h.done ++ take n rest;
  whole = h.whole ∙ ap (λ r. h.done ++ r) (sym (take-append-drop n rest)) ∙ sym (append_assoc h.done (take n rest) (drop n rest));
  takes = subst (Appends old new) (sym (flat_map-append f h.done (take n rest))) (Appends-trans old mid new (flat_map f h.done) (flat_map f (take n rest)) h.takes g);
}

-- all samples have gone out
pub sends_samples : (f : ℕ → List ℕ) (old new : Option (List ℕ)) (samples rest : List ℕ) (x : Unit {0}) → HasSentSamples f old new samples rest → length rest ≡ 0
    → Sends old new (flat_map f samples) (Ok x)
sends_samples f old new samples [] x h e = subst (λ xs. Appends old new (flat_map f xs)) (sym (h.whole ∙ append-nil h.done)) h.takes
sends_samples f old new samples (y ∷ rest) x h e = absurd (omega arith)

-- a part of the samples fails
pub sends_part : (f : ℕ → List ℕ) (old mid new : Option (List ℕ)) (samples rest : List ℕ) (n : ℕ) (e : PnmError) → HasSentSamples f old mid samples rest
    → Sends mid new (flat_map f (take n rest)) (Err e) → Sends old new (flat_map f samples) (Err e)
sends_part f old mid new samples rest n e h g =
    let later = sends_first mid new (flat_map f (take n rest)) (flat_map f (drop n rest)) e g in
    let all = sends_both old mid new (flat_map f h.done) (flat_map f (take n rest) ++ flat_map f (drop n rest)) (Err e) h.takes later in
    let parts : flat_map f samples ≡ flat_map f h.done ++ (flat_map f (take n rest) ++ flat_map f (drop n rest)) =
    ap (flat_map f) h.whole ∙ flat_map-append f h.done rest
    ∙ ap (λ ys. flat_map f h.done ++ ys) (ap (flat_map f) (sym (take-append-drop n rest)) ∙ flat_map-append f (take n rest) (drop n rest)) in
    subst (λ ys. Sends old new ys (Err e)) (sym parts) all

-- bytes are written as they stand
pub bytes_stand : (samples : List ℕ) → ((i : ℕ) → get_or samples i 0 < 256) → flat_map (sample_bytes U8) samples ≡ samples
bytes_stand [] small = refl
bytes_stand (b ∷ samples) small =
    ap (λ n. n ∷ flat_map (sample_bytes U8) samples) (mod-eq_of_lt (small 0))
    ∙ ap (λ bytes. b ∷ bytes) (bytes_stand samples (λ i. small (suc i)))

-- a byte in two
pub byte_in_two : (b : ℕ) → b < 256 → sample_bytes U16 b ≡ 0 ∷ b ∷ []
byte_in_two b small =
    let high : b / 256 ≡ 0 = omega (arith, small) in
    ap (λ n. n ∷ b % 256 ∷ []) high ∙ ap (λ n. 0 ∷ n ∷ []) (mod-eq_of_lt small)

one_wide : (samples : List ℕ) (i : ℕ) → i < length samples → get_or samples i 0 < 256 → flat_map (sample_bytes U16) (take 1 (drop i samples)) ≡ 0 ∷ get_or samples i 0 ∷ []
one_wide samples i inside small = ap (λ xs. flat_map (sample_bytes U16) (take 1 xs)) (drop_more samples i 0 inside) ∙ byte_in_two (get_or samples i 0) small

-- the samples up to a place have gone out, and the one at it
pub has_sent_wide : (old mid new : Option (List ℕ)) (samples : List ℕ) (i : ℕ) → i < length samples → get_or samples i 0 < 256 → HasSentSamples (sample_bytes U16) old mid samples (drop i samples)
    → Appends mid new (0 ∷ get_or samples i 0 ∷ []) → HasSentSamples (sample_bytes U16) old new samples (drop (i + 1) samples)
has_sent_wide old mid new samples i inside small h g =
    let part = has_sent_part (sample_bytes U16) old mid new samples (drop i samples) 1 h (subst (Appends mid new) (sym (one_wide samples i inside small)) g) in
    subst (HasSentSamples (sample_bytes U16) old new samples) (drop-drop 1 i samples) part

-- the samples up to a place have gone out, and the one at it fails
pub sends_wide : (old mid new : Option (List ℕ)) (samples : List ℕ) (i : ℕ) (e : PnmError) → i < length samples → get_or samples i 0 < 256
    → HasSentSamples (sample_bytes U16) old mid samples (drop i samples)
    → Sends mid new (0 ∷ get_or samples i 0 ∷ []) (Err e) → Sends old new (flat_map (sample_bytes U16) samples) (Err e)
sends_wide old mid new samples i e inside small h g =
    sends_part (sample_bytes U16) old mid new samples (drop i samples) 1 e h (subst (λ bytes. Sends mid new bytes (Err e)) (sym (one_wide samples i inside small)) g)

-- what was sent changes nothing
pub still_so : (first before after : Bool) → after ≡ (before || false) → before ≡ first → after ≡ first
still_so first true after h g = h ∙ g
still_so first false after h g = h ∙ g
