-- What the command that replays an order of steps finds.
use Rattle.std.specs.Prelude.{◌≡◌, ◌⊎◌, ℕ, List, Ok}
use Rattle.algo.specs.Parts.{input_frame}
use Rattle.pnm.specs.Reading.{reading, wanted_of}
use Rattle.commands.specs.declared.pipeline.fault.Fault.{Fault}
use Rattle.commands.specs.declared.pipeline.fault.Fault.TheVariants.{Order}
use Rattle.commands.specs.Order.Order.{IsOrder, IsNoOrder}
use Rattle.commands.specs.Asked.{AskedReplay}
use Rattle.commands.specs.Files.{Contents, Holds}
use Rattle.commands.specs.Checks.{IsChecked, IsCheckRefused}
use Rattle.commands.specs.Pictures.{IsImageFault, IsOfDevice}

-- the algorithm's text and the plan file are accepted, and the image is one of the input's shape
pub record HasInput (files : Contents) (a : AskedReplay) : Type 0 where
  pub checked : IsChecked files a.check
  pub image : List ℕ
  pub samples : List ℕ
  pub holds_image : Holds files a.input image
  pub is_image : reading (wanted_of (input_frame checked.algorithm)) image ≡ Ok samples

-- and the last file is the text of an order
pub record IsReplayed (files : Contents) (a : AskedReplay) : Type 0 where
  pub given : HasInput files a
  pub text : List ℕ
  pub workers : List ℕ
  pub holds_order : Holds files a.order text
  pub is_order : IsOrder text workers

-- the plan is accepted, and the image is refused
pub record ImageRefused (files : Contents) (a : AskedReplay) (fault : Fault) : Type 0 where
  pub checked : IsChecked files a.check
  pub image : List ℕ
  pub holds_image : Holds files a.input image
  pub refused : IsImageFault (input_frame checked.algorithm) image fault

-- the bytes are no text, or a text that is no order
abbrev pub IsOrderFault : List ℕ → Fault → Type 0
IsOrderFault bytes fault = IsOfDevice fault ⊎ ((fault ≡ Order) × IsNoOrder bytes)

-- plan and image are accepted, and the last file is no order
pub record OrderRefused (files : Contents) (a : AskedReplay) (fault : Fault) : Type 0 where
  pub given : HasInput files a
  pub text : List ℕ
  pub holds_order : Holds files a.order text
  pub refused : IsOrderFault text fault

-- why no order was replayed, or what came of it can't be told
abbrev pub IsReplayRefused : Contents → AskedReplay → Fault → Type 0
IsReplayRefused files a fault =
    IsOfDevice fault ⊎ (IsCheckRefused files a.check fault ⊎ (ImageRefused files a fault ⊎ OrderRefused files a fault))
