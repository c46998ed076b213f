-- What the signs of a picture mean.
use Rattle.std.specs.Prelude.{◌++◌, ℕ, List, codes}

-- the end of the rows, and below them, over the ends of the lanes, two lines with a sample of each sign
unfoldable pub legend : List ℕ
legend =
    codes "</svg>\n"
    ++ codes "<svg y=\"100%\" overflow=\"visible\">\n"
    ++ codes "<rect class=\"page\" y=\"-3.5em\" width=\"100%\" height=\"3.5em\"/>\n"
    ++ codes "<g class=\"plain\"><rect x=\"1em\" y=\"-3em\" width=\"1em\" height=\"1em\"/>"
    ++ codes "<text x=\"2.3em\" y=\"-2.2em\"><tspan>plain access</tspan></text></g>\n"
    ++ codes "<g class=\"marked\"><rect x=\"9em\" y=\"-3em\" width=\"1em\" height=\"1em\"/>"
    ++ codes "<text x=\"10.3em\" y=\"-2.2em\"><tspan>marked access</tspan></text></g>\n"
    ++ codes "<g class=\"assertion\"><rect x=\"17em\" y=\"-3em\" width=\"1em\" height=\"1em\"/>"
    ++ codes "<text x=\"18.3em\" y=\"-2.2em\"><tspan>assertion</tspan></text></g>\n"
    ++ codes "<g class=\"watch\"><rect x=\"1.4em\" y=\"-1.5em\" width=\"0.2em\" height=\"1em\"/>"
    ++ codes "<text x=\"2.3em\" y=\"-0.7em\"><tspan>watchpoint</tspan></text></g>\n"
    ++ codes "<g class=\"take\"><line x1=\"10em\" y1=\"-1em\" x2=\"9em\" y2=\"-1em\" marker-end=\"url(#tip)\"/>"
    ++ codes "<text x=\"10.3em\" y=\"-0.7em\"><tspan>taking</tspan></text></g>\n"
    ++ codes "<g class=\"race\"><line x1=\"17em\" y1=\"-1em\" x2=\"18em\" y2=\"-1em\"/>"
    ++ codes "<text x=\"18.3em\" y=\"-0.7em\"><tspan>report</tspan></text></g>\n"
    ++ codes "</svg>\n</svg>\n"
