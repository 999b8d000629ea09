-- Reading and writing the samples of a raw raster in parts.
use Rattle.std.proofs.Common.{◌≡◌, ℕ, zero, suc, ◌+◌, ◌<◌, List, [], ◌∷◌, ◌++◌, length, fold, nat_le, if◌then◌else◌, ◌-◌, true, false, Option, Ok, Err, refl, sym, ap, ◌∙◌, subst, arith, inr, get_or, append-nil, append_assoc, take, drop, take-append-drop}
use Rattle.std.proofs.lemmas.Bool.Decides.{nat_tests}
use Rattle.std.proofs.lemmas.Grind.{fold-append}
use Rattle.std.proofs.lemmas.List.{get_or-drop, length-drop}
use Rattle.std.specs.Io.KnownBytes.{Consumes, Keeps, IsAtEnd}
use Rattle.std.proofs.KnownBytes.{Consumes-nil, Consumes-trans}
use Rattle.pnm.specs.declared.error.PnmError.{PnmError}
use Rattle.pnm.specs.declared.error.PnmError.TheVariants as fault
use Rattle.pnm.specs.declared.state.Form.TheVariants.{Raw}
use Rattle.pnm.specs.declared.state.State.{State}
use Rattle.pnm.specs.declared.state.State.TheVariants.{Start, First, Done}
use Rattle.pnm.specs.declared.state.Step.TheVariants.{Sample, Fault}
use Rattle.pnm.specs.declared.state.Wanted.{Wanted}
use Rattle.pnm.specs.Reading.{after_sample, closed, finish, in_raster, onward, raw_sample, reading, step, taken, walk, with_last, Going}
use Rattle.pnm.specs.Source.{EndsPart, LeadsOn, ReadsFile, Refuses}
use Rattle.pnm.proofs.ByteByByte.{HasRead, reads_file, refuses_byte, refuses_device, refuses_end}

-- after a sample, the last one or not
after_one : (left : ℕ) → after_sample Raw 255 (suc left) ≡ in_raster left
after_one zero = refl
after_one (suc left) =
    let not_last : nat_le (suc (suc left)) 1 ≡ false = grind (arith, nat_tests) in
    let fewer : suc (suc left) - 1 ≡ suc left = omega arith in
    ap (λ c. if c then Done Raw else First 255 (suc (suc left) - 1)) not_last ∙ ap (First 255) fewer

-- a sample that is not above the greatest
raw_one : (left b : ℕ) (samples : List ℕ) → nat_le b 255 ≡ true → taken (raw_sample 255 (suc left) b) samples ≡ Going (in_raster left) (samples ++ b ∷ [])
raw_one left b samples fits =
    ap (λ c. taken (if c then Sample b (after_sample Raw 255 (suc left)) else Fault fault.AboveMax) samples) fits
    ∙ ap (λ s. Going s (samples ++ b ∷ [])) (after_one left)

is_byte : (b : ℕ) → b < 256 → nat_le b 255 ≡ true
is_byte b h = grind (arith, nat_tests)

byte_taken : (w : Wanted) (left b : ℕ) (samples : List ℕ) → b < 256 → onward w (Going (in_raster (suc left)) samples) b ≡ Going (in_raster left) (samples ++ b ∷ [])
byte_taken w left b samples h = raw_one left b samples (is_byte b h)

-- bytes of a raster
pub bytes_taken : (w : Wanted) (left after : ℕ) (samples bytes : List ℕ) → ((i : ℕ) → get_or bytes i 0 < 256) → after + length bytes ≡ left
    → fold (onward w) (Going (in_raster left) samples) bytes ≡ Going (in_raster after) (samples ++ bytes)
bytes_taken w left after samples [] small e =
    let same : left ≡ after = omega (arith, e) in
    ap (λ n. Going (in_raster n) samples) same ∙ ap (Going (in_raster after)) (sym (append-nil samples))
bytes_taken w left after samples (b ∷ bytes) small e =
    let one : left ≡ suc (after + length bytes) = omega (arith, e) in
    ap (λ n. fold (onward w) (onward w (Going (in_raster n) samples) b) bytes) one
    ∙ ap (λ p. fold (onward w) p bytes) (byte_taken w (after + length bytes) b samples (small 0))
    ∙ bytes_taken w (after + length bytes) after (samples ++ b ∷ []) bytes (λ i. small (suc i)) refl
    ∙ ap (Going (in_raster after)) (append_assoc samples (b ∷ []) bytes)

-- a raster that ends with the file
pub whole_read : (w : Wanted) (bytes : List ℕ) (at left : ℕ) (s : State) → ((i : ℕ) → get_or bytes i 0 < 256) → walk w (take at bytes) ≡ Going s [] → s ≡ in_raster left → left ≡ length bytes - at
    → reading w bytes ≡ Ok (drop at bytes)
whole_read w bytes at left s small h e last =
    let fits : (i : ℕ) → get_or (drop at bytes) i 0 < 256 = λ i. subst (λ b. b < 256) (sym (get_or-drop at bytes i 0)) (small (at + i)) in
    let count : 0 + length (drop at bytes) ≡ left = let long = length-drop at bytes in omega (arith, long, last) in
    ap (λ bs. closed (walk w bs)) (sym (take-append-drop at bytes))
    ∙ ap closed (fold-append (onward w) (Going Start []) (take at bytes) (drop at bytes))
    ∙ ap (λ p. closed (fold (onward w) p (drop at bytes))) (h ∙ ap (λ u. Going u []) e)
    ∙ ap closed (bytes_taken w left 0 [] (drop at bytes) fits count)

pub leads_nowhere : (old : Option (List ℕ)) (s : State) (samples : List ℕ) → LeadsOn old old s samples s samples
leads_nowhere old s samples = record { bytes = []; takes = Consumes-nil old; leads = λ w. refl }

pub leads_further : (old mid new : Option (List ℕ)) (s t u : State) (a b c : List ℕ) → LeadsOn old mid s a t b → LeadsOn mid new t b u c → LeadsOn old new s a u c
leads_further old mid new s t u a b c h g = record {
  bytes = h.bytes ++ g.bytes;
  takes = Consumes-trans old mid new h.bytes g.bytes h.takes g.takes;
  leads = λ w. fold-append (onward w) (Going s a) h.bytes g.bytes ∙ ap (λ p. fold (onward w) p g.bytes) (h.leads w) ∙ g.leads w;
}

-- bytes that were taken together
pub leads_on : (old new : Option (List ℕ)) (s t : State) (a b : List ℕ) (bytes : List ℕ) → Consumes old new bytes → ((w : Wanted) → fold (onward w) (Going s a) bytes ≡ Going t b) → LeadsOn old new s a t b
leads_on old new s t a b bytes takes leads = record { bytes = bytes; takes = takes; leads = leads }

pub fewer_left : (after left : ℕ) (bytes : List ℕ) → after + length bytes ≡ left → 0 < length bytes → after < left
fewer_left after left bytes e l = omega arith

-- what was read before, and then a part of a raster
pub has_read_part : (w : Wanted) (before old mid : Option (List ℕ)) (bytes : List ℕ) (s t : State) (a b : List ℕ) → Consumes before old bytes → walk w bytes ≡ Going s a
    → (h : LeadsOn old mid s a t b) → HasRead w before mid (length (bytes ++ h.bytes)) t b
has_read_part w before old mid bytes s t a b takes leads h = record {
  bytes = bytes ++ h.bytes;
  takes = Consumes-trans before old mid bytes h.bytes takes h.takes;
  count = refl;
  leads = fold-append (onward w) (Going Start []) bytes h.bytes ∙ ap (λ p. fold (onward w) p h.bytes) leads ∙ h.leads w;
}

-- the end after the last sample
pub raster_file : (w : Wanted) (before old mid new : Option (List ℕ)) (bytes : List ℕ) (all left : ℕ) (a b : List ℕ) → Consumes before old bytes → walk w bytes ≡ Going (in_raster all) a
    → LeadsOn old mid (in_raster all) a (in_raster left) b → left ≡ 0 → Keeps mid new → IsAtEnd new → ReadsFile w before new b
raster_file w before old mid new bytes all left a b takes leads h e keeps end =
    let read = has_read_part w before old mid bytes (in_raster all) (in_raster left) a b takes leads h in
    reads_file w before mid new (length (bytes ++ h.bytes)) (in_raster left) b b read keeps end (ap (λ n. with_last b (finish (in_raster n))) e)

-- a byte after the last sample
pub raster_trails : (w : Wanted) (before old mid new : Option (List ℕ)) (bytes : List ℕ) (all left byte : ℕ) (a b : List ℕ) → Consumes before old bytes → walk w bytes ≡ Going (in_raster all) a
    → LeadsOn old mid (in_raster all) a (in_raster left) b → left ≡ 0 → Consumes mid new (byte ∷ []) → Refuses w before new fault.Trailing
raster_trails w before old mid new bytes all left byte a b takes leads h e more =
    let read = has_read_part w before old mid bytes (in_raster all) (in_raster left) a b takes leads h in
    refuses_byte w before mid new (length (bytes ++ h.bytes)) byte (in_raster left) b fault.Trailing read more (inr (ap (λ n. taken (step w (in_raster n) byte) b) e))

-- a reader that fails after the last sample
pub raster_fails : (w : Wanted) (before old mid new : Option (List ℕ)) (bytes : List ℕ) (all left : ℕ) (a b : List ℕ) (f : PnmError) → Consumes before old bytes → walk w bytes ≡ Going (in_raster all) a
    → LeadsOn old mid (in_raster all) a (in_raster left) b → Keeps mid new → f ≡ fault.Device → Refuses w before new f
raster_fails w before old mid new bytes all left a b f takes leads h keeps e =
    let read = has_read_part w before old mid bytes (in_raster all) (in_raster left) a b takes leads h in
    refuses_device w before mid new (length (bytes ++ h.bytes)) (in_raster left) b f read keeps e

-- a part that ends a raster
cut_short : (left : ℕ) (b : List ℕ) → 0 < left → with_last b (finish (in_raster left)) ≡ Err fault.TooShort
cut_short zero b l = absurd (omega arith)
cut_short (suc left) b l = refl

pub raster_ends : (w : Wanted) (before old mid new : Option (List ℕ)) (bytes : List ℕ) (all left : ℕ) (a b : List ℕ) (f : PnmError) → Consumes before old bytes → walk w bytes ≡ Going (in_raster all) a
    → LeadsOn old mid (in_raster all) a (in_raster left) b → 0 < left → EndsPart mid new f → Refuses w before new f
raster_ends w before old mid new bytes all left a b fault.Device takes leads h l e = raster_fails w before old mid new bytes all left a b fault.Device takes leads h e refl
raster_ends w before old mid new bytes all left a b fault.Memory takes leads h l e =
    ((bytes ++ h.bytes) ++ e.0, Consumes-trans before mid new (bytes ++ h.bytes) e.0 (Consumes-trans before old mid bytes h.bytes takes h.takes) e.1)
raster_ends w before old mid new bytes all left a b fault.TooShort takes leads h l e =
    let read = has_read_part w before old mid bytes (in_raster all) (in_raster left) a b takes leads h in
    refuses_end w before mid new (length (bytes ++ h.bytes)) (in_raster left) b fault.TooShort read e.0 e.1 (inr (cut_short left b l))
raster_ends w before old mid new bytes all left a b fault.Magic takes leads h l e = absurd e
raster_ends w before old mid new bytes all left a b fault.Malformed takes leads h l e = absurd e
raster_ends w before old mid new bytes all left a b fault.OtherImage takes leads h l e = absurd e
raster_ends w before old mid new bytes all left a b fault.AboveMax takes leads h l e = absurd e
raster_ends w before old mid new bytes all left a b fault.Trailing takes leads h l e = absurd e
