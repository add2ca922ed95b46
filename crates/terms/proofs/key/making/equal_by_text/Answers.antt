use Rattle.std.proofs.Common.{ap}
use Rattle.terms.specs.Keys.{text_of}
use Rattle.terms.proofs.Texts.{by-text}
use Rattle.terms.proofs.key.making.equal_by_text.Goals as goal

pub returns : goal.returns
returns c s t = (by-text s t, ap text_of)
