-- Within which bounds the numbers of options are.
use Rattle.std.specs.Prelude.{◌≡◌, ◌<◌, ◌≤◌, IfSome, length}
use Rattle.cli.specs.declared.request.CheckRequest.{CheckRequest}
use Rattle.cli.specs.declared.request.JoinRequest.{JoinRequest}
use Rattle.cli.specs.declared.request.RacesRequest.{RacesRequest}
use Rattle.cli.specs.declared.request.RunOptions.{RunOptions}
use Rattle.cli.specs.declared.request.Request.{Request}
use Rattle.cli.specs.declared.request.Request.TheVariants as requests
use Rattle.cli.specs.declared.request.RunRequest.{RunRequest}
use Rattle.cli.specs.declared.request.SearchFormat.{SearchFormat}
use Rattle.cli.specs.declared.request.SearchFormat.TheVariants as search_formats
use Rattle.cli.specs.declared.request.SearchRequest.{SearchRequest}
use Rattle.cli.specs.declared.request.SearchesRequest.{SearchesRequest}
use Rattle.cli.specs.declared.request.Switches.{Switches}
use Rattle.cli.specs.declared.request.Switches.TheVariants as switches

-- from 3 to 1,024 page slots, at most 1,000,000 accesses skipped, and from 1 to 1,000,000,000 failed tries of a wait
pub record KeepsBounds (options : RunOptions) : Type 0 where
  pub slots_from : 3 ≤ options.slots
  pub slots_to : options.slots ≤ 1024
  pub skip : options.skip ≤ 1000000
  pub turns_from : 1 ≤ options.turns
  pub turns_to : options.turns ≤ 1000000000

-- and from 1 to 100,000 runs, of which 1 to 64 side by side, with a delay of at most 1,000,000 loads
pub record KeepsRunBounds (request : RunRequest) : Type 0 where
  pub runs : 1 ≤ request.runs
  pub runs_to : request.runs ≤ 100000
  pub delay : request.delay ≤ 1000000
  pub jobs : 1 ≤ request.jobs
  pub jobs_to : request.jobs ≤ 64
  pub options : KeepsBounds request.options

-- at most 64 preemptions, or no bound on them
abbrev pub KeepsPreemptions : Switches → Type 0
KeepsPreemptions (switches.AtMost number) = number ≤ 64
KeepsPreemptions switches.All = Unit {0}

-- and so many preemptions, in from 1 to 1,000,000,000 schedules, or states, and 1 to 1,000,000 seconds, if these are
-- bounded, by 1 to 64 threads
pub record KeepsSearchBounds (request : SearchRequest) : Type 0 where
  pub switches : KeepsPreemptions request.switches
  pub limit : 1 ≤ request.limit
  pub limit_to : request.limit ≤ 1000000000
  pub seconds : IfSome request.seconds (λ seconds. (1 ≤ seconds) × (seconds ≤ 1000000))
  pub jobs : 1 ≤ request.jobs
  pub jobs_to : request.jobs ≤ 64
  pub options : KeepsBounds request.options

-- a part is one of at most 65,536, which are counted from 1
abbrev pub KeepsPart : SearchFormat → Type 0
KeepsPart (search_formats.Part part parts) = (1 ≤ part) × (part ≤ parts) × (parts ≤ 65536)
KeepsPart search_formats.Text = Unit {0}
KeepsPart search_formats.Json = Unit {0}
KeepsPart search_formats.Csv = Unit {0}
KeepsPart search_formats.Herd = Unit {0}

-- the same bounds for the search of each file: there is one file at least, and where what is found is printed as text,
-- there are two at least; and those of a part
pub record KeepsSearchesBounds (request : SearchesRequest) : Type 0 where
  pub some : 0 < length request.files.items
  pub several : request.format ≡ search_formats.Text → 2 ≤ length request.files.items
  pub part : KeepsPart request.format
  pub switches : KeepsPreemptions request.switches
  pub limit : 1 ≤ request.limit
  pub limit_to : request.limit ≤ 1000000000
  pub seconds : IfSome request.seconds (λ seconds. (1 ≤ seconds) × (seconds ≤ 1000000))
  pub jobs : 1 ≤ request.jobs
  pub jobs_to : request.jobs ≤ 64
  pub options : KeepsBounds request.options

-- one file at least
abbrev pub KeepsJoinBounds : JoinRequest → Type 0
KeepsJoinBounds request = 0 < length request.files.items

-- one file at least, and from 1 to 1,000,000,000 states, or schedules, of each, and 1 to 1,000,000 seconds, if these
-- are bounded, by 1 to 64 threads
pub record KeepsRacesBounds (request : RacesRequest) : Type 0 where
  pub some : 0 < length request.files.items
  pub limit : 1 ≤ request.limit
  pub limit_to : request.limit ≤ 1000000000
  pub seconds : IfSome request.seconds (λ seconds. (1 ≤ seconds) × (seconds ≤ 1000000))
  pub jobs : 1 ≤ request.jobs
  pub jobs_to : request.jobs ≤ 64
  pub options : KeepsBounds request.options

-- one file at least, and from 3 to 1,024 page slots
pub record KeepsCheckBounds (request : CheckRequest) : Type 0 where
  pub some : 0 < length request.files.items
  pub slots_from : 3 ≤ request.slots
  pub slots_to : request.slots ≤ 1024

-- what may be asked: numbers within their bounds
abbrev pub MayBeAsked : Request → Type 0
MayBeAsked (requests.Step request) = KeepsBounds request.options
MayBeAsked (requests.Run request) = KeepsRunBounds request
MayBeAsked (requests.Search request) = KeepsSearchBounds request
MayBeAsked (requests.Searches request) = KeepsSearchesBounds request
MayBeAsked (requests.Join request) = KeepsJoinBounds request
MayBeAsked (requests.Races request) = KeepsRacesBounds request
MayBeAsked (requests.Replay request) = Unit {0}
MayBeAsked (requests.Show request) = Unit {0}
MayBeAsked (requests.Check request) = KeepsCheckBounds request
MayBeAsked requests.Calls = Unit {0}
