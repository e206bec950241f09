use Rattle.class_text.proofs.reader.Reader.accept.Goals as goal

pub returns-in-ClassOrEnd-clause-refused : goal.returns-in-ClassOrEnd-clause-refused
returns-in-ClassOrEnd-clause-refused c = rw c.in-ClassOrEnd.is c.accept_class.ensures.refused

pub returns-in-Star-clause-refused : goal.returns-in-Star-clause-refused
returns-in-Star-clause-refused c = rw c.in-Star.is c.accept_star.ensures.refused
