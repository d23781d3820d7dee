use Rattle.box_parse.proofs.Runs.{name_taken}
use Rattle.box_parse.proofs.reader.Reader.quoted.Goals as goal

pub name_of-requires : goal.name_of-requires
name_of-requires c = rw c.name_len-len.ensures.len (name_taken c.args.text.now)
