-- How it is proved what the practice printer prints: a floor's ten rows, its goal and a line feed stand behind one another (Laws), or the line `no`.
mod Laws
