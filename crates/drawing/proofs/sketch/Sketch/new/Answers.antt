use Rattle.std.proofs.Common.{refl}
use Rattle.drawing.proofs.Growing.{blank_new}
use Rattle.drawing.proofs.sketch.Sketch.new.Goals as goal

pub returns : goal.returns
returns c = record {
  blank = blank_new _ refl c.new.ensures c.requires.empty c.requires.room;
  lines = refl;
}
