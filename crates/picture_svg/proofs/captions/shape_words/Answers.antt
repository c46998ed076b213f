-- the pieces spell the settings
use Rattle.picture_svg.proofs.captions.shape_words.Goals as goal

pub returns : goal.returns
returns c = rw c.width_word.ensures
