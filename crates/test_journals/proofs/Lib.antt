mod TwoNames
