use Rattle.script_reader.proofs.Reading.{begins_command}
use Rattle.script_reader.proofs.reader.read_tokens.Goals as goal

pub returns-in-Some-process_word : goal.returns-in-Some-process_word
returns-in-Some-process_word c =
    let process = c.in-Some-process_word.ensures.word in
    rw (c.in-Some.ensures, begins_command c.in-Some.word.now _ process, process) c.read_command.ensures
