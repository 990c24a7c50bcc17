use Rattle.mn_language.proofs.LawfulTexts as texts
use Rattle.mn_language.proofs.text_laws.texts_are_lawful.Goals as goal

pub returns : goal.returns
returns c = texts.texts_are_lawful
