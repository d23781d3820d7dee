use Rattle.border_break.proofs.Closing.{frame_closes, unbroken_frame}
use Rattle.border_break.proofs.laws.closing_frames_have_none.Goals as goal

pub returns-clause-none : goal.returns-clause-none
returns-clause-none c = frame_closes

pub returns-clause-closes : goal.returns-clause-closes
returns-clause-closes c = unbroken_frame
