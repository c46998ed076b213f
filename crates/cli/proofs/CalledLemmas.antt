-- What a command is asked for, by its name.
use Rattle.std.proofs.Common.{◌≡◌, ap, arith, codes, List, get_or, length}
use Rattle.clap.specs.Words.{Row, Text}
use Rattle.cli.specs.Bounds.{KeepsBounds, KeepsRunBounds, MayBeAsked}
use Rattle.cli.specs.Words.{AskReplay, AskRun, AskShow, AskStep, IsAskedBy}
use Rattle.cli.specs.declared.request.ReplayRequest.{ReplayRequest}
use Rattle.cli.specs.declared.request.Request.{Request}
use Rattle.cli.specs.declared.request.Request.TheVariants as requests
use Rattle.cli.specs.declared.request.RunRequest.{RunRequest}
use Rattle.cli.specs.declared.request.ShowRequest.{ShowRequest}
use Rattle.cli.specs.declared.request.StepRequest.{StepRequest}

-- `step`
pub asked_step : (values : List Row) (request : Request) → MayBeAsked request → IsAskedBy (codes "step") values request → (step : StepRequest) × (KeepsBounds step.options × AskStep values step)
asked_step values (requests.Step request) keeps asks = (request, (keeps, asks.1))
asked_step values (requests.Run request) keeps asks =
    absurd (let long : 4 ≡ 3 = ap (λ (text : Text). length text) asks.0 in omega (arith, long))
asked_step values (requests.Search request) keeps asks =
    absurd (let long : 4 ≡ 6 = ap (λ (text : Text). length text) asks.0 in omega (arith, long))
asked_step values (requests.Searches request) keeps asks =
    absurd (let long : 4 ≡ 6 = ap (λ (text : Text). length text) asks.0 in omega (arith, long))
asked_step values (requests.Join request) keeps asks =
    absurd (let letter : 115 ≡ 106 = ap (λ (text : Text). get_or text 0 0) asks.0 in omega (arith, letter))
asked_step values (requests.Races request) keeps asks =
    absurd (let long : 4 ≡ 5 = ap (λ (text : Text). length text) asks.0 in omega (arith, long))
asked_step values (requests.Replay request) keeps asks =
    absurd (let long : 4 ≡ 6 = ap (λ (text : Text). length text) asks.0 in omega (arith, long))
asked_step values (requests.Show request) keeps asks =
    absurd (let letter : 116 ≡ 104 = ap (λ (text : Text). get_or text 1 0) asks.0 in omega (arith, letter))
asked_step values (requests.Check request) keeps asks =
    absurd (let long : 4 ≡ 5 = ap (λ (text : Text). length text) asks.0 in omega (arith, long))
asked_step values requests.Calls keeps asks =
    absurd (let long : 4 ≡ 5 = ap (λ (text : Text). length text) asks.0 in omega (arith, long))

-- `run`
pub asked_run : (values : List Row) (request : Request) → MayBeAsked request → IsAskedBy (codes "run") values request → (run : RunRequest) × (KeepsRunBounds run × AskRun values run)
asked_run values (requests.Step request) keeps asks =
    absurd (let long : 3 ≡ 4 = ap (λ (text : Text). length text) asks.0 in omega (arith, long))
asked_run values (requests.Run request) keeps asks = (request, (keeps, asks.1))
asked_run values (requests.Search request) keeps asks =
    absurd (let long : 3 ≡ 6 = ap (λ (text : Text). length text) asks.0 in omega (arith, long))
asked_run values (requests.Searches request) keeps asks =
    absurd (let long : 3 ≡ 6 = ap (λ (text : Text). length text) asks.0 in omega (arith, long))
asked_run values (requests.Join request) keeps asks =
    absurd (let long : 3 ≡ 4 = ap (λ (text : Text). length text) asks.0 in omega (arith, long))
asked_run values (requests.Races request) keeps asks =
    absurd (let long : 3 ≡ 5 = ap (λ (text : Text). length text) asks.0 in omega (arith, long))
asked_run values (requests.Replay request) keeps asks =
    absurd (let long : 3 ≡ 6 = ap (λ (text : Text). length text) asks.0 in omega (arith, long))
asked_run values (requests.Show request) keeps asks =
    absurd (let long : 3 ≡ 4 = ap (λ (text : Text). length text) asks.0 in omega (arith, long))
asked_run values (requests.Check request) keeps asks =
    absurd (let long : 3 ≡ 5 = ap (λ (text : Text). length text) asks.0 in omega (arith, long))
asked_run values requests.Calls keeps asks =
    absurd (let long : 3 ≡ 5 = ap (λ (text : Text). length text) asks.0 in omega (arith, long))

-- `replay`
pub asked_replay : (values : List Row) (request : Request) → IsAskedBy (codes "replay") values request → (replay : ReplayRequest) × AskReplay values replay
asked_replay values (requests.Step request) asks =
    absurd (let long : 6 ≡ 4 = ap (λ (text : Text). length text) asks.0 in omega (arith, long))
asked_replay values (requests.Run request) asks =
    absurd (let long : 6 ≡ 3 = ap (λ (text : Text). length text) asks.0 in omega (arith, long))
asked_replay values (requests.Search request) asks =
    absurd (let letter : 114 ≡ 115 = ap (λ (text : Text). get_or text 0 0) asks.0 in omega (arith, letter))
asked_replay values (requests.Searches request) asks =
    absurd (let letter : 114 ≡ 115 = ap (λ (text : Text). get_or text 0 0) asks.0 in omega (arith, letter))
asked_replay values (requests.Join request) asks =
    absurd (let long : 6 ≡ 4 = ap (λ (text : Text). length text) asks.0 in omega (arith, long))
asked_replay values (requests.Races request) asks =
    absurd (let long : 6 ≡ 5 = ap (λ (text : Text). length text) asks.0 in omega (arith, long))
asked_replay values (requests.Replay request) asks = (request, asks.1)
asked_replay values (requests.Show request) asks =
    absurd (let long : 6 ≡ 4 = ap (λ (text : Text). length text) asks.0 in omega (arith, long))
asked_replay values (requests.Check request) asks =
    absurd (let long : 6 ≡ 5 = ap (λ (text : Text). length text) asks.0 in omega (arith, long))
asked_replay values requests.Calls asks =
    absurd (let long : 6 ≡ 5 = ap (λ (text : Text). length text) asks.0 in omega (arith, long))

-- `show`
pub asked_show : (values : List Row) (request : Request) → IsAskedBy (codes "show") values request → (show : ShowRequest) × AskShow values show
asked_show values (requests.Step request) asks =
    absurd (let letter : 104 ≡ 116 = ap (λ (text : Text). get_or text 1 0) asks.0 in omega (arith, letter))
asked_show values (requests.Run request) asks =
    absurd (let long : 4 ≡ 3 = ap (λ (text : Text). length text) asks.0 in omega (arith, long))
asked_show values (requests.Search request) asks =
    absurd (let long : 4 ≡ 6 = ap (λ (text : Text). length text) asks.0 in omega (arith, long))
asked_show values (requests.Searches request) asks =
    absurd (let long : 4 ≡ 6 = ap (λ (text : Text). length text) asks.0 in omega (arith, long))
asked_show values (requests.Join request) asks =
    absurd (let letter : 115 ≡ 106 = ap (λ (text : Text). get_or text 0 0) asks.0 in omega (arith, letter))
asked_show values (requests.Races request) asks =
    absurd (let long : 4 ≡ 5 = ap (λ (text : Text). length text) asks.0 in omega (arith, long))
asked_show values (requests.Replay request) asks =
    absurd (let long : 4 ≡ 6 = ap (λ (text : Text). length text) asks.0 in omega (arith, long))
asked_show values (requests.Show request) asks = (request, asks.1)
asked_show values (requests.Check request) asks =
    absurd (let long : 4 ≡ 5 = ap (λ (text : Text). length text) asks.0 in omega (arith, long))
asked_show values requests.Calls asks =
    absurd (let long : 4 ≡ 5 = ap (λ (text : Text). length text) asks.0 in omega (arith, long))

-- a command of another name asks for nothing
pub asked_other : (name : Text) (values : List Row) (request : Request) → (name ≡ codes "step" → ⊥) → (name ≡ codes "run" → ⊥)
    → (name ≡ codes "search" → ⊥) → (name ≡ codes "join" → ⊥) → (name ≡ codes "races" → ⊥) → (name ≡ codes "replay" → ⊥) → (name ≡ codes "show" → ⊥)
    → (name ≡ codes "check" → ⊥) → IsAskedBy name values request → ⊥
asked_other name values (requests.Step request) step run search join races replay show check asks = step asks.0
asked_other name values (requests.Run request) step run search join races replay show check asks = run asks.0
asked_other name values (requests.Search request) step run search join races replay show check asks = search asks.0
asked_other name values (requests.Searches request) step run search join races replay show check asks = search asks.0
asked_other name values (requests.Join request) step run search join races replay show check asks = join asks.0
asked_other name values (requests.Races request) step run search join races replay show check asks = races asks.0
asked_other name values (requests.Replay request) step run search join races replay show check asks = replay asks.0
asked_other name values (requests.Show request) step run search join races replay show check asks = show asks.0
asked_other name values (requests.Check request) step run search join races replay show check asks = check asks.0
asked_other name values requests.Calls step run search join races replay show check asks = check asks.0
