-- What `races` is asked for.
use Rattle.std.proofs.Common.{◌≡◌, ◌∙◌, Bor, List, ap, arith, codes, get_or, length, map, sym}
use Rattle.std.proofs.lemmas.List.{length-map}
use Rattle.clap.specs.Words.{Row, Text}
use Rattle.cli.specs.Bounds.{KeepsRacesBounds, MayBeAsked}
use Rattle.cli.specs.Words.{AskRaces, IsAskedBy, words_of}
use Rattle.cli.specs.declared.request.RacesRequest.{RacesRequest}
use Rattle.cli.specs.declared.request.Request.{Request}
use Rattle.cli.specs.declared.request.Request.TheVariants as requests

pub asked_races : (values : List Row) (request : Request) → MayBeAsked request → IsAskedBy (codes "races") values request
    → (races : RacesRequest) × (KeepsRacesBounds races × AskRaces values races)
asked_races values (requests.Step request) keeps asks =
    absurd (let long : 5 ≡ 4 = ap (λ (text : Text). length text) asks.0 in omega (arith, long))
asked_races values (requests.Run request) keeps asks =
    absurd (let long : 5 ≡ 3 = ap (λ (text : Text). length text) asks.0 in omega (arith, long))
asked_races values (requests.Search request) keeps asks =
    absurd (let long : 5 ≡ 6 = ap (λ (text : Text). length text) asks.0 in omega (arith, long))
asked_races values (requests.Searches request) keeps asks =
    absurd (let long : 5 ≡ 6 = ap (λ (text : Text). length text) asks.0 in omega (arith, long))
asked_races values (requests.Join request) keeps asks =
    absurd (let long : 5 ≡ 4 = ap (λ (text : Text). length text) asks.0 in omega (arith, long))
asked_races values (requests.Races request) keeps asks = (request, (keeps, asks.1))
asked_races values (requests.Replay request) keeps asks =
    absurd (let long : 5 ≡ 6 = ap (λ (text : Text). length text) asks.0 in omega (arith, long))
asked_races values (requests.Show request) keeps asks =
    absurd (let long : 5 ≡ 4 = ap (λ (text : Text). length text) asks.0 in omega (arith, long))
asked_races values (requests.Check request) keeps asks =
    absurd (let first : 114 ≡ 99 = ap (λ (text : Text). get_or text 0 0) asks.0 in omega (arith, first))
asked_races values requests.Calls keeps asks =
    absurd (let first : 114 ≡ 99 = ap (λ (text : Text). get_or text 0 0) asks.0 in omega (arith, first))

-- no races are asked for of no file
pub no_file : (values : List Row) (files : List (Bor Text)) (request : Request) → map (λ file. file.now) files ≡ words_of (codes "FILE") values
    → length files ≡ 0 → MayBeAsked request → IsAskedBy (codes "races") values request → ⊥
no_file values files request given none keeps asks =
    let races = asked_races values request keeps asks in
    let some = races.1.0.some in
    let own = length-map races.0.files.items (λ (file : Bor Text). file.now) in
    let other = length-map files (λ (file : Bor Text). file.now) in
    let same = ap (λ (texts : List Text). length texts) (races.1.1.files ∙ sym given) in
    omega (arith, some, own, other, same, none)
