-- What `join` is asked for.
use Rattle.std.proofs.Common.{◌≡◌, ◌∙◌, Bor, List, ap, arith, codes, get_or, length, map, sym}
use Rattle.std.proofs.lemmas.List.{length-map}
use Rattle.clap.specs.Words.{Row, Text}
use Rattle.cli.specs.Bounds.{KeepsJoinBounds, MayBeAsked}
use Rattle.cli.specs.Words.{AskJoin, IsAskedBy, words_of}
use Rattle.cli.specs.declared.request.JoinRequest.{JoinRequest}
use Rattle.cli.specs.declared.request.Request.{Request}
use Rattle.cli.specs.declared.request.Request.TheVariants as requests

pub asked_join : (values : List Row) (request : Request) → MayBeAsked request → IsAskedBy (codes "join") values request
    → (join : JoinRequest) × (KeepsJoinBounds join × AskJoin values join)
asked_join values (requests.Step request) keeps asks =
    absurd (let letter : 106 ≡ 115 = ap (λ (text : Text). get_or text 0 0) asks.0 in omega (arith, letter))
asked_join values (requests.Run request) keeps asks =
    absurd (let long : 4 ≡ 3 = ap (λ (text : Text). length text) asks.0 in omega (arith, long))
asked_join values (requests.Search request) keeps asks =
    absurd (let long : 4 ≡ 6 = ap (λ (text : Text). length text) asks.0 in omega (arith, long))
asked_join values (requests.Searches request) keeps asks =
    absurd (let long : 4 ≡ 6 = ap (λ (text : Text). length text) asks.0 in omega (arith, long))
asked_join values (requests.Join request) keeps asks = (request, (keeps, asks.1))
asked_join values (requests.Races request) keeps asks =
    absurd (let long : 4 ≡ 5 = ap (λ (text : Text). length text) asks.0 in omega (arith, long))
asked_join values (requests.Replay request) keeps asks =
    absurd (let long : 4 ≡ 6 = ap (λ (text : Text). length text) asks.0 in omega (arith, long))
asked_join values (requests.Show request) keeps asks =
    absurd (let letter : 106 ≡ 115 = ap (λ (text : Text). get_or text 0 0) asks.0 in omega (arith, letter))
asked_join values (requests.Check request) keeps asks =
    absurd (let long : 4 ≡ 5 = ap (λ (text : Text). length text) asks.0 in omega (arith, long))
asked_join values requests.Calls keeps asks =
    absurd (let long : 4 ≡ 5 = ap (λ (text : Text). length text) asks.0 in omega (arith, long))

-- no parts are asked for of no file
pub no_part : (values : List Row) (files : List (Bor Text)) (request : Request) → map (λ file. file.now) files ≡ words_of (codes "FILE") values
    → length files ≡ 0 → MayBeAsked request → IsAskedBy (codes "join") values request → ⊥
no_part values files request given none keeps asks =
    let join = asked_join values request keeps asks in
    let some = join.1.0 in
    let own = length-map join.0.files.items (λ (file : Bor Text). file.now) in
    let other = length-map files (λ (file : Bor Text). file.now) in
    let same = ap (λ (texts : List Text). length texts) (join.1.1.files ∙ sym given) in
    omega (arith, some, own, other, same, none)
