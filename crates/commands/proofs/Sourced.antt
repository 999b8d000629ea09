-- What was read of files before a command's last step, and why it ends where one is refused.
use Rattle.std.proofs.Common.{◌≡◌, ◌∙◌, ◌⊎◌, ap, List, ℕ, Result, Ok, Err, IfOk, inl, inr}
use Rattle.std.specs.Global.{Vec}
use Rattle.std.specs.Prelude.{OnOk}
use Rattle.clap.specs.Words.{Text}
use Rattle.meaning.specs.Algorithm.{Algorithm}
use Rattle.algo.specs.declared.algorithm.Algo.{Algo}
use Rattle.algo.specs.View.{algorithm_of, picture_said}
use Rattle.checked_plan.specs.declared.checked.Checked.{Checked}
use Rattle.pnm.specs.Text.{text_of}
use Rattle.commands.specs.declared.pipeline.fault.Fault.{Fault}
use Rattle.commands.specs.declared.picture.Means.{Means}
use Rattle.commands.specs.Asked.{AskedCheck, AskedDraw, AskedFormat, AskedPicture, AskedReplay}
use Rattle.commands.specs.Checks as checks
use Rattle.commands.specs.Draws as draws
use Rattle.commands.specs.Files.{Contents, Holds, SameFiles, SameOthers, Puts}
use Rattle.commands.specs.Formats as formats
use Rattle.commands.specs.Means.{AreMeans, IsAfforded, IsOfFile, algo_meant}
use Rattle.commands.specs.Pictures as pictures
use Rattle.commands.specs.Pictures.{HasPlanFile, IsOfDevice, IsPlanFault}
use Rattle.commands.specs.Replays as replays
use Rattle.commands.specs.Sources.{IsAlgorithmFile, IsDrawingOf, IsDrawingPut, IsDrawingUnput, IsFileOfOrder, IsFormattedText, IsImageFile, IsNoAlgorithmFile, IsNoImageFile, IsPictureOf}
use Rattle.commands.specs.Sources.{IsPicturePut, IsPictureUnput, IsPlayable, IsUndrawn, IsUnformatted, IsUnmade, IsUnplayed}
use Rattle.commands.proofs.Drawn.{ordered_before, unordered_before}
use Rattle.commands.proofs.Formatted.{not_spelled}
use Rattle.commands.proofs.Kept.{held_before, others_then, same_then}
use Rattle.commands.proofs.Prepared.{afforded_by, fault_before, plan_before, ready_before, ready_by, unready_before}

pub image_before : (a b : Contents) (name : Text) (x : Algorithm) (samples : List ℕ) → SameFiles a b → IsImageFile b name x samples → IsImageFile a name x samples
image_before a b name x samples same h = (h.0, held_before a b name h.0 same h.1, h.2)

pub no_image_before : (a b : Contents) (name : Text) (x : Algorithm) (fault : Fault) → SameFiles a b → IsNoImageFile b name x fault → IsNoImageFile a name x fault
no_image_before a b name x fault same (inl device) = inl device
no_image_before a b name x fault same (inr h) = inr (h.0, held_before a b name h.0 same h.1, h.2)

-- the file of an order holds one
pub order_before : (a b : Contents) (name : Text) (fault : Fault) → SameFiles a b → draws.IsNoOrderFile b name fault → draws.IsNoOrderFile a name fault
order_before a b name fault same (inl device) = inl device
order_before a b name fault same (inr h) = inr (h.0, held_before a b name h.0 same h.1, h.2)

pub of_order : (a b : Contents) (name : Text) (workers : List ℕ) → SameFiles a b → IsFileOfOrder b name workers → draws.IsOrderFile a name
of_order a b name workers same h = (h.0, held_before a b name h.0 same h.1, (workers, h.2))

-- what holds of a result's value, from what holds where there is one and what holds of it
pub with_ok : {T E : Type 0} (r : Result T E) (A : Type 0) (W P : T → Type 0) → OnOk r A → IfOk r W → (A → (x : T) → W x → P x) → IfOk r P
with_ok (Ok x) A W P a w f = f a x w
with_ok (Err e) A W P a w f = tt

-- ---- pictures

module _ (old : Contents) (a : AskedPicture) where
  pub picture_unread : (new : Contents) (fault : Fault) → SameFiles old new → IsNoAlgorithmFile old a.algorithm fault → pictures.IsRefused old new a fault
  picture_unread new fault same (inl device) = inl (same, inl device)
  picture_unread new fault same (inr h) = inl (same, inr (inl (record { text = h.0; holds_text = h.1; refused = h.2 })))

  module _ (x : Algorithm) (said : IsAlgorithmFile old a.algorithm x) (mid : Contents) (same : SameFiles old mid) where
    unmade : (fault : Fault) → IsUnmade mid a x fault → pictures.IsReason old a fault
    unmade fault (inl h) = inr (inr (inl (record { text = said.0; algorithm = x; holds_text = said.1; is_text = said.2; refused = unready_before old mid a.way x fault same h })))
    unmade fault (inr (inl (ready, inl device))) = inl device
    unmade fault (inr (inl (ready, inr h))) = inr (inr (inr (inl (record {
      text = said.0;
      algorithm = x;
      image = h.0;
      holds_text = said.1;
      is_text = said.2;
      ready = ready_before old mid a.way x same ready;
      holds_image = held_before old mid a.input h.0 same h.1;
      refused = h.2;
    }))))
    unmade fault (inr (inr (samples, image, stopped))) = inr (inr (inr (inr (record {
      text = said.0;
      algorithm = x;
      image = image.0;
      samples = samples;
      holds_text = said.1;
      is_text = said.2;
      holds_image = held_before old mid a.input image.0 same image.1;
      is_image = image.2;
      refused = stopped;
    }))))

    made : (bytes : List ℕ) → IsPictureOf mid a x bytes → pictures.IsPicture old a bytes
    made bytes h = record {
      text = said.0;
      algorithm = x;
      image = h.image.0;
      samples = h.samples;
      holds_text = said.1;
      is_text = said.2;
      ready = ready_before old mid a.way x same h.ready;
      holds_image = held_before old mid a.input h.image.0 same h.image.1;
      is_image = h.image.2;
      affordable = h.affordable;
      whole = h.whole;
    }

    pub picture_refused : (new : Contents) (fault : Fault) → IsPictureUnput mid new a x fault → pictures.IsRefused old new a fault
    picture_refused new fault (inl h) = inl (same_then old mid new same h.0, unmade fault h.1)
    picture_refused new fault (inr h) = inr (h.0, others_then old mid new a.output same h.1, (h.2.0, made h.2.0 h.2.1))

    pub picture_put : (new : Contents) → IsPicturePut mid new a x → pictures.IsDone old new a
    picture_put new h = (h.0, made h.0 h.1, (h.2.0, others_then old mid new a.output same h.2.1))

-- the file of a picture that was computed by these means
pub written_by : (files : Contents) (a : AskedPicture) (m : Means) (algo : Algo) (samples : List ℕ) → algo_meant m ≡ algo → AreMeans files a.way (algorithm_of algo) m
    → IsImageFile files a.input (algorithm_of algo) samples → (r : Result (Vec ℕ) Fault) → OnOk r (IsAfforded m samples)
    → IfOk r (λ file. file.items ≡ text_of (picture_said (algorithm_of (algo_meant m)) samples)) → IfOk r (λ file. IsPictureOf files a (algorithm_of algo) file.items)
written_by files a m algo samples is means image r afforded written =
    let same = ap algorithm_of is in
    let file_of : Algo → List ℕ = λ (x : Algo). text_of (picture_said (algorithm_of x) samples) in
    with_ok r _ _ _ afforded written (λ fits file whole. record {
      samples = samples;
      ready = ready_by files a.way _ m same means;
      image = image;
      affordable = afforded_by files a.way _ m samples same means fits;
      whole = whole ∙ ap file_of is;
    })

-- ---- plans

pub plan_of_file : (files : Contents) (name : Text) (x : Algorithm) (checked : Checked) → IsOfFile files name x checked → HasPlanFile files name x
plan_of_file files name x checked h = (h.0, h.1, (checked.plan, checked.cert, h.2))

module _ (old : Contents) (a : AskedCheck) where
  pub check_unread : (fault : Fault) → IsNoAlgorithmFile old a.algorithm fault → checks.IsCheckRefused old a fault
  check_unread fault (inl device) = inl device
  check_unread fault (inr h) = inr (inl (record { text = h.0; holds_text = h.1; refused = h.2 }))

  module _ (x : Algorithm) (said : IsAlgorithmFile old a.algorithm x) (mid : Contents) (same : SameFiles old mid) where
    pub check_refused : (fault : Fault) → IsPlanFault mid a.plan x fault → checks.IsCheckRefused old a fault
    check_refused fault h =
        inr (inr (record { text = said.0; algorithm = x; holds_text = said.1; is_text = said.2; refused = fault_before old mid a.plan x fault same h }))

    abbrev pub is_checked : HasPlanFile mid a.plan x → checks.IsChecked old a
    is_checked h = record { text = said.0; algorithm = x; holds_text = said.1; is_text = said.2; planned = plan_before old mid a.plan x same h }

-- ---- orders

module _ (old : Contents) (a : AskedReplay) (checked : checks.IsChecked old a.check) (mid : Contents) (same : SameFiles old mid) where
  input_of : ((samples : List ℕ) × IsImageFile mid a.input checked.algorithm samples) → replays.HasInput old a
  input_of h = record { checked = checked; image = h.1.0; samples = h.0; holds_image = held_before old mid a.input h.1.0 same h.1.1; is_image = h.1.2 }

  pub is_replayed : IsPlayable mid a checked.algorithm → replays.IsReplayed old a
  is_replayed h = record {
    given = input_of h.0;
    text = h.1.0;
    workers = h.1.2.0;
    holds_order = held_before old mid a.order h.1.0 same h.1.1;
    is_order = h.1.2.1;
  }

  pub not_replayed : (fault : Fault) → IsUnplayed mid a checked.algorithm fault → replays.IsReplayRefused old a fault
  not_replayed fault (inl (inl device)) = inl device
  not_replayed fault (inl (inr h)) =
      inr (inr (inl (record { checked = checked; image = h.0; holds_image = held_before old mid a.input h.0 same h.1; refused = h.2 })))
  not_replayed fault (inr (input, inl device)) = inl device
  not_replayed fault (inr (input, inr h)) =
      inr (inr (inr (record { given = input_of input; text = h.0; holds_order = held_before old mid a.order h.0 same h.1; refused = h.2 })))

-- ---- canonical texts

module _ (old mid : Contents) (a : AskedFormat) (text : List ℕ) (same : SameFiles old mid) (holds : Holds old a.algorithm text) where
  pub unformatted : (fault : Fault) → IsUnformatted text fault → formats.IsRefused old mid a fault
  unformatted fault (inl h) = inl (same, inr (inl (record { text = text; holds_text = holds; refused = h })))
  unformatted fault (inr h) = not_spelled old mid a text h.0 fault same holds h.1 h.2

  module _ (new : Contents) (bytes : List ℕ) (h : IsFormattedText text bytes) where
    whole : formats.IsFormatted old a bytes
    whole = record { text = text; algorithm = h.0; holds_text = holds; is_text = h.1; canonical = h.2 }

    pub format_kept : (fault : Fault) → IsOfDevice fault → SameOthers mid new a.output → formats.IsRefused old new a fault
    format_kept fault device others = inr (device, others_then old mid new a.output same others, (bytes, whole))

    pub format_put : Puts mid new a.output bytes → formats.IsDone old new a
    format_put put = (bytes, whole, (put.0, others_then old mid new a.output same put.1))

-- ---- drawings

-- it is drawn of a checked plan, and after an order that was known before
pub drawing_by : (a b : Contents) (ask : AskedDraw) (x : Algorithm) (r : Result (Vec ℕ) Fault) → SameFiles a b → HasPlanFile a ask.check.plan x
    → OnOk r (draws.HasOrder b ask.order) → IfOk r (λ file. draws.IsDrawingFile x file.items) → IfOk r (λ file. IsDrawingOf a ask x file.items)
drawing_by a b ask x r same planned ordered drawn =
    with_ok r _ _ _ ordered drawn (λ order file is. record { planned = planned; ordered = ordered_before a b ask.order same order; drawn = is })

pub undrawn_before : (a b : Contents) (ask : AskedDraw) (x : Algorithm) (fault : Fault) → SameFiles a b → HasPlanFile a ask.check.plan x
    → IsOfDevice fault ⊎ draws.IsUnordered b ask.order fault → IsUndrawn a ask x fault
undrawn_before a b ask x fault same planned (inl device) = inr (planned, inl device)
undrawn_before a b ask x fault same planned (inr h) = inr (planned, inr (unordered_before a b ask.order fault same h))

module _ (old : Contents) (a : AskedDraw) (x : Algorithm) (said : IsAlgorithmFile old a.check.algorithm x) (mid : Contents) (same : SameFiles old mid) where
  undrawn : (fault : Fault) → IsUndrawn mid a x fault → draws.IsReason old a fault
  undrawn fault (inl h) = inr (inl (check_refused old a.check x said mid same fault h))
  undrawn fault (inr (planned, inl device)) = inl device
  undrawn fault (inr (planned, inr h)) =
      inr (inr (record { checked = is_checked old a.check x said mid same planned; refused = unordered_before old mid a.order fault same h }))

  drawn : (bytes : List ℕ) → IsDrawingOf mid a x bytes → draws.IsDrawn old a bytes
  drawn bytes h = record { checked = is_checked old a.check x said mid same h.planned; ordered = ordered_before old mid a.order same h.ordered; drawn = h.drawn }

  pub drawing_refused : (new : Contents) (fault : Fault) → IsDrawingUnput mid new a x fault → draws.IsRefused old new a fault
  drawing_refused new fault (inl h) = inl (same_then old mid new same h.0, undrawn fault h.1)
  drawing_refused new fault (inr h) = inr (h.0, others_then old mid new a.output same h.1, (h.2.0, drawn h.2.0 h.2.1))

  pub drawing_put : (new : Contents) → IsDrawingPut mid new a x → draws.IsDone old new a
  drawing_put new h = (h.0, drawn h.0 h.1, (h.2.0, others_then old mid new a.output same h.2.1))
