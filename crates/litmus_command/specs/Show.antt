-- What is drawn of a trace that is accepted.
use Rattle.std.specs.Global.{Global}
use Rattle.std.specs.Prelude.{◌≡◌, ◌⊎◌, [], ℕ, Bool, List, None, Option, Some, Vec, false, true}
use Rattle.file_commands.specs.declared.failure.Failure.{Failure}
use Rattle.file_commands.specs.declared.failure.Failure.TheVariants.{BadPlace, BadSchedule, CannotRead, CannotWrite, Engine, OtherSource, OutOfMemory}
use Rattle.file_commands.specs.declared.failure.Failure.TheVariants as failures
use Rattle.litmus_parse.specs.Read.{IsReadAs}
use Rattle.litmus_syntax.specs.declared.program.Program.{Program}
use Rattle.source_places.specs.picture_source.Source.{AreLabelsIn}
use Rattle.picture_text.specs.Text.{detailed_picture}
use Rattle.run_output.specs.declared.error.EngineError.{EngineError}
use Rattle.run_output.specs.declared.error.EngineError.TheVariants as engine
use Rattle.run_stats.specs.Errors.{IsNotRead}
use Rattle.timeline.specs.picture.Drawn.{IsPictureOf, IsUndrawn}
use Rattle.timeline.specs.declared.picture.draw.Picture.{Picture}
use Rattle.timeline.specs.declared.picture.error.PictureError.{PictureError}
use Rattle.timeline.specs.declared.picture.labels.Label.{Label}
use Rattle.picture_svg.specs.Svg.{captioned_svg}
use Rattle.litmus_command.specs.declared.show.Wanted.{Wanted}

-- the picture as SVG, where that is wanted, with the name of the test, and with what is known of sites
abbrev pub svg_if : Bool → Picture → (test : List ℕ) → List Label → Option (List ℕ)
svg_if true picture test labels = Some (captioned_svg picture test [] labels)
svg_if false picture test labels = None

-- the text, and the SVG where it is wanted, are those of a picture, with this name of the test and this known of sites
pub record IsPictureDrawn (picture : Picture) (test : List ℕ) (labels : List Label) (wanted : Wanted) (text : List ℕ) (svg : Option (List ℕ)) :
    Type 0 where
  pub text_is : text ≡ detailed_picture labels wanted.slots wanted.style picture
  pub svg_is : svg ≡ svg_if wanted.svg picture test labels

-- they are those with what a litmus text says of the trace: the name of its test, and of each site the variable and the
-- statement
pub record IsDrawnBy (source : List ℕ) (picture : Picture) (wanted : Wanted) (text : List ℕ) (svg : Option (List ℕ)) : Type 0 where
  pub program : Program
  pub read : IsReadAs source program
  pub labels : Vec Label Global
  pub labels_are : AreLabelsIn program source picture.rows.items (Some labels)
  pub drawn : IsPictureDrawn picture program.name labels.items wanted text svg

-- so it is where there is such a text; without one nothing is known beyond the trace
abbrev pub IsDrawnWith : (source : Option (List ℕ)) → Picture → Wanted → (text : List ℕ) → (svg : Option (List ℕ)) → Type 0
IsDrawnWith None picture wanted text svg = IsPictureDrawn picture [] [] wanted text svg
IsDrawnWith (Some source) picture wanted text svg = IsDrawnBy source picture wanted text svg

-- the bytes are a true trace, and the text, and the SVG where it is wanted, are those of its picture
pub record IsDrawn (bytes : List ℕ) (source : Option (List ℕ)) (wanted : Wanted) (text : List ℕ) (svg : Option (List ℕ)) : Type 0 where
  pub picture : Picture
  pub drawn : IsPictureOf bytes picture
  pub with_source : IsDrawnWith source picture wanted text svg

-- the text is read as a program whose accesses can't be those of the trace
pub record IsOfOther (source : List ℕ) (picture : Picture) : Type 0 where
  pub program : Program
  pub read : IsReadAs source program
  pub unfit : AreLabelsIn program source picture.rows.items None

-- why a litmus text says nothing of a trace with this picture: it isn't read, its program is another, or memory ran out
abbrev pub IsNoText : (source : List ℕ) → EngineError → Type 0
IsNoText source (engine.Text error) = IsNotRead source error
IsNoText source (engine.Run error) = ⊥
IsNoText source engine.SinkFailed = ⊥

abbrev pub IsUnsuited : (source : List ℕ) → Picture → Failure → Type 0
IsUnsuited source picture BadSchedule = ⊥
IsUnsuited source picture BadPlace = ⊥
IsUnsuited source picture CannotRead = ⊥
IsUnsuited source picture CannotWrite = ⊥
IsUnsuited source picture OutOfMemory = Unit {0}
IsUnsuited source picture (Engine error) = IsNoText source error
IsUnsuited source picture (failures.Trace error) = ⊥
IsUnsuited source picture (failures.Picture error) = ⊥
IsUnsuited source picture OtherSource = IsOfOther source picture

-- the bytes have no picture, for this reason
pub record IsNoPicture (bytes : List ℕ) (failure : Failure) : Type 0 where
  pub error : PictureError
  pub failure_is : failure ≡ failures.Picture error
  pub undrawn : IsUndrawn bytes error

-- they have one, which the litmus text doesn't suit, for this reason
pub record IsMismatched (bytes source : List ℕ) (failure : Failure) : Type 0 where
  pub picture : Picture
  pub drawn : IsPictureOf bytes picture
  pub unsuited : IsUnsuited source picture failure

-- why nothing is drawn of the bytes, with a litmus text or without one
abbrev pub IsNotDrawn : (bytes : List ℕ) → (source : Option (List ℕ)) → Failure → Type 0
IsNotDrawn bytes None failure = IsNoPicture bytes failure
IsNotDrawn bytes (Some source) failure = IsNoPicture bytes failure ⊎ IsMismatched bytes source failure
