-- The tags of a page.
use Rattle.std.specs.Prelude.{◌≡◌, ◌++◌, ℕ, All, IfSome, List, [], ◌∷◌, codes, true}
use Rattle.race_page.specs.Followed.{followed}
use Rattle.race_page.specs.declared.values.FileEnd.{FileEnd}
use Rattle.race_page.specs.declared.values.FileEnd.TheVariants.{Found, Refused}
use Rattle.race_page.specs.declared.values.FileTold.{FileTold}
use Rattle.race_page.specs.declared.values.PairTold.{PairTold}

-- what stands behind the `<` of the tags in front of the files
abbrev pub head_tags : List (List ℕ)
head_tags =
    codes "!DOCTYPE html>" ∷ codes "html lang=\"en\">" ∷ codes "head>" ∷ codes "meta charset=\"utf-8\">"
    ∷ codes "meta name=\"viewport\" " ∷ codes "meta http-equiv=\"Content-Security-Policy\" " ∷ codes "title>"
    ∷ codes "/title>" ∷ codes "style>" ∷ codes "/style>" ∷ codes "/head>" ∷ codes "body>" ∷ codes "h1>" ∷ codes "/h1>"
    ∷ []

-- of those of tables
abbrev pub table_tags : List (List ℕ)
table_tags =
    codes "div class=\"wide\">" ∷ codes "/div>" ∷ codes "table>" ∷ codes "table class=\"files\">" ∷ codes "/table>"
    ∷ codes "thead>" ∷ codes "/thead>" ∷ codes "tbody>" ∷ codes "/tbody>" ∷ codes "tr>" ∷ codes "/tr>"
    ∷ codes "th scope=\"col\">" ∷ codes "th scope=\"row\">" ∷ codes "/th>" ∷ codes "td>" ∷ codes "td colspan=\"6\">"
    ∷ codes "/td>" ∷ []

-- of those of files; each link leads to a place of the page
abbrev pub file_tags : List (List ℕ)
file_tags =
    codes "section id=\"f" ∷ codes "/section>" ∷ codes "h2>" ∷ codes "/h2>" ∷ codes "h3>" ∷ codes "/h3>"
    ∷ codes "nav>" ∷ codes "/nav>" ∷ codes "a href=\"#\">" ∷ codes "a href=\"#f" ∷ codes "/a>" ∷ codes "p>"
    ∷ codes "p class=\"small\">" ∷ codes "/p>" ∷ codes "ol>" ∷ codes "/ol>" ∷ codes "li>" ∷ codes "/li>"
    ∷ codes "mark class=\"" ∷ codes "/mark>" ∷ codes "small class=\"" ∷ codes "/small>" ∷ codes "b class=\""
    ∷ codes "/b>" ∷ codes "article>" ∷ codes "/article>" ∷ codes "code>" ∷ codes "/code>" ∷ codes "figure>"
    ∷ codes "/figure>" ∷ []

-- of those of the foot
abbrev pub foot_tags : List (List ℕ)
foot_tags =
    codes "footer>" ∷ codes "/footer>" ∷ codes "dl>" ∷ codes "/dl>" ∷ codes "dt>" ∷ codes "/dt>" ∷ codes "dd>"
    ∷ codes "/dd>" ∷ codes "i>" ∷ codes "/i>" ∷ codes "/body>" ∷ codes "/html>" ∷ []

-- of those of a picture
abbrev pub picture_tags : List (List ℕ)
picture_tags =
    codes "svg " ∷ codes "/svg>" ∷ codes "style>" ∷ codes "/style>" ∷ codes "defs>" ∷ codes "/defs>" ∷ codes "marker "
    ∷ codes "/marker>" ∷ codes "path " ∷ codes "rect " ∷ codes "line " ∷ codes "text " ∷ codes "/text>"
    ∷ codes "tspan>" ∷ codes "/tspan>" ∷ codes "g " ∷ codes "/g>" ∷ codes "title>" ∷ codes "/title>" ∷ []

-- of all
unfoldable pub tags : List (List ℕ)
tags = head_tags ++ table_tags ++ file_tags ++ foot_tags ++ picture_tags

-- wherever a `<` stands in the text, it is that of one of these tags
abbrev pub HasTags : List (List ℕ) → (text : List ℕ) → Type 0
HasTags tags text = followed 60 tags text ≡ true

-- the pictures of a file have tags of pictures alone
abbrev pub IsDrawnPair : PairTold → Type 0
IsDrawnPair one = IfSome one.picture (λ svg. HasTags picture_tags svg.items)

abbrev pub IsDrawnEnd : FileEnd → Type 0
IsDrawnEnd (Found races) = All IsDrawnPair races.pairs.items
IsDrawnEnd (Refused why) = Unit {0}

abbrev pub IsDrawn : FileTold → Type 0
IsDrawn file = IsDrawnEnd file.end
