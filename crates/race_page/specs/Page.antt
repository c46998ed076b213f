-- The whole page.
use Rattle.std.specs.Prelude.{ℕ, List, [], ◌∷◌, codes}
use Rattle.std.specs.List.{concat}
use Rattle.race_output.specs.Settings.{settings_line}
use Rattle.race_output.specs.Several.{last_line}
use Rattle.race_page.specs.Counts.{file_counts}
use Rattle.race_page.specs.Escape.{escaped}
use Rattle.race_page.specs.Files.{each_from, file_row, file_section}
use Rattle.race_page.specs.declared.looks.TheConstants.{HEAD, LEGEND, LOOKS, TABLE_HEAD}
use Rattle.race_page.specs.declared.values.FileTold.{FileTold}
use Rattle.race_page.specs.declared.values.Page.{Page}

-- what is written in front of the files
unfoldable pub head : List ℕ
head = concat
    (HEAD.now ∷ codes "<style>\n" ∷ LOOKS.now ∷ codes "</style>\n</head>\n<body>\n<h1>Data races</h1>\n" ∷ [])

-- how many files have which verdict, and the table of files
unfoldable pub table : List FileTold → List ℕ
table files = concat
    (codes "<p>" ∷ last_line (file_counts files) ∷ codes "</p>\n<div class=\"wide\">\n<table class=\"files\">\n"
    ∷ TABLE_HEAD.now ∷ codes "<tbody>\n" ∷ each_from file_row 0 files ∷ codes "</tbody>\n</table>\n</div>\n" ∷ [])

-- what is written behind the files: what the words mean, the settings, and the program
unfoldable pub foot : Page → List ℕ
foot page = concat
    (codes "<footer>\n" ∷ LEGEND.now ∷ codes "<p>" ∷ settings_line page.settings.now ∷ codes "</p>\n<p>"
    ∷ escaped page.program.now ∷ codes "</p>\n</footer>\n</body>\n</html>\n" ∷ [])

-- The page: the table of files, a section for each file, and the foot. Texts from files are written escaped alone; a
-- picture is written as it stands.
unfoldable pub page_text : Page → List ℕ
page_text page = concat (head ∷ table page.files.now ∷ each_from file_section 0 page.files.now ∷ foot page ∷ [])
